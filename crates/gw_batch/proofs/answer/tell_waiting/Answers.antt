use Rattle.std.proofs.Common.{Bool, arith, refl, subst, ◌∙◌}
use Rattle.std.proofs.KnownBytes.{Keeps-refl}
use Rattle.gw_streams.specs.Streams.{MarksFailure}
use Rattle.gw_batch.proofs.Stages.{stay, go_on}
use Rattle.gw_batch.proofs.Windows.{err_same, stops_on, ended, end_stops, is_write, tells_writes}
use Rattle.gw_batch.proofs.answer.tell_waiting.Goals as goal

pub loop-alloc-init : goal.loop-alloc-init
loop-alloc-init g c = record { advanced = stay _; count = omega arith; nothing = λ zero. Keeps-refl _; unfailed = refl }

pub loop-alloc-preserved : goal.loop-alloc-preserved
loop-alloc-preserved g c =
    let told = c.in_ok-tell_window.ensures in
    record {
      advanced = go_on _ _ _ c.loop-alloc.invariant.advanced told.advances;
      count = omega (arith, c.loop-alloc.invariant.count, told.count);
      nothing = λ zero. absurd (omega (arith, told.more, zero));
      unfailed = told.marks ∙ c.loop-alloc.invariant.unfailed;
    }

pub returns-in_err-tell_window-clause-stops : goal.returns-in_err-tell_window-clause-stops
returns-in_err-tell_window-clause-stops g c =
    err_same _ c.from_residual.result _ c.from_residual.ensures.1
    (stops_on _ _ _ _ c.requires.start c.loop-alloc.invariant.nothing c.loop-alloc.invariant.advanced c.in_err-tell_window.ensures.stops)

pub returns-clause-advances : goal.returns-clause-advances
returns-clause-advances g c =
    ended c.write_text.result _ _ c.loop-alloc.waiting.items _ _ (omega (arith, c.loop-alloc.invariant.count))
    c.loop-alloc.invariant.advanced c.write_text.ensures.bytes

pub returns-clause-stops : goal.returns-clause-stops
returns-clause-stops g c =
    end_stops c.write_text.result _ _ c.loop-alloc.waiting.items _ _ (omega (arith, c.loop-alloc.invariant.count))
    c.loop-alloc.invariant.advanced c.write_text.ensures.bytes

pub returns-clause-marks : goal.returns-clause-marks
returns-clause-marks g c =
    let marked = subst (λ (b : Bool). MarksFailure c.write_text.result b c.write_text.new.writer.failed) c.loop-alloc.invariant.unfailed
    c.write_text.ensures.told in
    tells_writes c.write_text.result _ _ (is_write _ _ c.write_text.result c.write_text.ensures.bytes) marked
