use Rattle.gw_chart.specs.Plots.{level}
use Rattle.gw_drawing.proofs.Series.{grown, begun}
use Rattle.gw_chart.proofs.plot.put_lower_levels.Goals as goal

pub loop-i-init : goal.loop-i-init
loop-i-init c = begun (level c.args.plot c.args.axis) c.args.out.now.items

pub loop-i-preserved : goal.loop-i-preserved
loop-i-preserved c = grown (level c.args.plot c.args.axis) c.loop-i.i _ _ _ c.loop-i.invariant c.in_ok-put_level.ensures
