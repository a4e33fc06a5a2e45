use Rattle.gw_chart.specs.Lines.{points_after}
use Rattle.gw_drawing.proofs.Series.{grown, begun}
use Rattle.gw_chart.proofs.line.put_turns.Goals as goal

pub loop-i-init : goal.loop-i-init
loop-i-init c = begun (points_after c.args.curve.now.plot c.args.curve.now.axis c.args.curve.now.seen.now.rows.items c.args.curve.now.entity) _

pub loop-i-preserved : goal.loop-i-preserved
loop-i-preserved c = grown
    (points_after c.args.curve.now.plot c.args.curve.now.axis c.args.curve.now.seen.now.rows.items c.args.curve.now.entity) c.loop-i.i _ _
    _ c.loop-i.invariant c.in_ok-put_points_after.ensures
