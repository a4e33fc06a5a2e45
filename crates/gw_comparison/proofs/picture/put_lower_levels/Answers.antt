use Rattle.gw_drawing.proofs.Series.{grown, begun}
use Rattle.gw_comparison.specs.Pictures.{level_at}
use Rattle.gw_comparison.proofs.picture.put_lower_levels.Goals as goal

pub loop-i-init : goal.loop-i-init
loop-i-init c = begun (level_at c.args.frame.now) c.args.out.now.items

pub loop-i-preserved : goal.loop-i-preserved
loop-i-preserved c =
    grown (level_at c.args.frame.now) c.loop-i.i _ _ _ c.loop-i.invariant c.in_ok-put_level_at.ensures
