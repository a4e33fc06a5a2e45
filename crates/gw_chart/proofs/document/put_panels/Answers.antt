use Rattle.gw_chart.specs.Document.{panel_at}
use Rattle.gw_drawing.proofs.Series.{grown, begun}
use Rattle.gw_chart.proofs.document.put_panels.Goals as goal

pub loop-i-init : goal.loop-i-init
loop-i-init c = begun (panel_at c.args.window c.args.sim.now.state c.args.seen.now.rows.items c.args.seen.now.bands.items c.args.sim.now.job.parts.entities) _

pub loop-i-preserved : goal.loop-i-preserved
loop-i-preserved c = grown
    (panel_at c.args.window c.args.sim.now.state c.args.seen.now.rows.items c.args.seen.now.bands.items c.args.sim.now.job.parts.entities)
    c.loop-i.i _ _ _ c.loop-i.invariant c.in_ok-put_panel_at.ensures
