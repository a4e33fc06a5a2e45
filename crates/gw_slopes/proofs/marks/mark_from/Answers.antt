use Rattle.gw_slopes.proofs.Marking.{stay_both}
use Rattle.gw_slopes.proofs.marks.mark_from.Goals as goal

pub loop-preserved : goal.loop-preserved
loop-preserved c = stay_both c.args.parts.now c.args.parameter c.args.marks.now c.loop.marks c.mark_place.new.marks c.loop.invariant c.mark_place.ensures
