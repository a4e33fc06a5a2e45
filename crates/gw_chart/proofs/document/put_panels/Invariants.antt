use Rattle.gw_chart.specs.Document.{panel_at}
use Rattle.gw_drawing.proofs.Series.{HasUpto}
use Rattle.gw_chart.proofs.document.put_panels.Given as goal

abbrev pub invariant-loop-i : goal.invariant-loop-i
invariant-loop-i l =
    HasUpto (panel_at l.window l.sim.state l.seen.rows.items l.seen.bands.items l.sim.job.parts.entities)
    l.i l.initial.out.items l.out.items
