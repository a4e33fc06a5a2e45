use Rattle.std.proofs.Common.{◌-◌, length, refl, sym, ap, ◌∙◌}
use Rattle.gw_slopes.specs.Marking.{marked_if}
use Rattle.gw_slopes.proofs.Marking.{goes_on}
use Rattle.gw_slopes.proofs.marks.mark_round.Goals as goal

pub loop-i-preserved : goal.loop-i-preserved
loop-i-preserved c =
    let step = c.mark-marked.ensures in
    goes_on c.args.parts.now c.args.parameter c.args.marks.now c.loop-i.marks c.mark-marked.new.marks c.loop-i.marked c.mark-marked.result
    c.loop-i.i (length c.args.marks.now - 1 - c.loop-i.i) c.loop-i.invariant c.loop-i-test.true refl step.marked
    (step.marks ∙ ap (λ due. marked_if due c.loop-i.marks (length c.args.marks.now - 1 - c.loop-i.i)) (sym step.marked))
