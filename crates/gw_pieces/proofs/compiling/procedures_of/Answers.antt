use Rattle.std.proofs.Common.{◌<◌, ◌≤◌, length, refl, arith}
use Rattle.std.specs.Prelude.{min}
use Rattle.std.proofs.lemmas.Option.{slice_get_read}
use Rattle.gw_names.specs.Numbers.{numbers_of}
use Rattle.gw_pieces.proofs.Noting.{further, widen}
use Rattle.gw_pieces.proofs.Reasoning.{at_origin, before_or_at, all_due}
use Rattle.gw_pieces.proofs.Compiled.{one_further_compiled}
use Rattle.gw_pieces.proofs.compiling.procedures_of.Goals as goal

pub loop-place-preserved : goal.loop-place-preserved
loop-place-preserved c =
    let h = c.loop-place.invariant in
    let grown = c.in_ok-put_procedure_from.ensures.grown in
    let order = c.args.plan.now.order.items in
    let i = c.loop-place.place in
    let n = numbers_of c.args.plan.now.names in
    let ss = c.args.plan.now.text.now.statements.items in
    let room : i < 256 = omega (arith, c.loop-place-test.true, c.min-place-end.ensures) in
    let there = slice_get_read order (length order) i c.index.result.now refl
    (omega (arith, c.loop-place-test.true, c.min-place-end.ensures)) c.index.ensures in
    record {
      clear = λ none. h.clear (grown none).0;
      compiled = λ none. one_further_compiled (numbers_of c.args.plan.now.names) c.args.plan.now.text.now.statements.items order i _ there
          c.loop-place.procedures.items c.put_procedure_from.new.code.items (h.compiled (grown none).0) (grown none).1;
      notes = further _ _ _ (before_or_at n order ss i) h.notes (at_origin n order ss i _ there room _ _ c.in_ok-put_procedure_from.ensures.notes);
    }

pub returns-clause-notes : goal.returns-clause-notes
returns-clause-notes c =
    let n = numbers_of c.args.plan.now.names in
    let order = c.args.plan.now.order.items in
    let ss = c.args.plan.now.text.now.statements.items in
    let past : min (length order) 256 ≤ c.loop-place.place = omega (arith, c.loop-place-test.false, c.min-place-end.ensures) in
    widen _ _ (λ note x. x) (all_due n order ss c.loop-place.place past) (λ note x. x) c.loop-place.invariant.notes
