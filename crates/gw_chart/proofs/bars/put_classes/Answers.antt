use Rattle.gw_chart.specs.Bars.{class}
use Rattle.gw_drawing.proofs.Series.{grown, begun}
use Rattle.gw_chart.proofs.bars.put_classes.Goals as goal

pub loop-i-init : goal.loop-i-init
loop-i-init c = begun (class c.args.plot c.args.axis c.args.table.now c.args.values.now) _

pub loop-i-preserved : goal.loop-i-preserved
loop-i-preserved c = grown (class c.args.plot c.args.axis c.args.table.now c.args.values.now) c.loop-i.i _ _ _ c.loop-i.invariant c.in_ok-put_class.ensures
