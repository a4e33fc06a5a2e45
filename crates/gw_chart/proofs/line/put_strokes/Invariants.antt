use Rattle.gw_chart.specs.Lines.{stroke_at}
use Rattle.gw_drawing.proofs.Series.{HasUpto}
use Rattle.gw_chart.proofs.line.put_strokes.Given as goal

abbrev pub invariant-loop-i : goal.invariant-loop-i
invariant-loop-i l =
    HasUpto (stroke_at l.curve.plot l.curve.axis l.curve.seen.now.rows.items l.curve.seen.now.bands.items l.curve.entity)
    l.i l.initial.out.items l.out.items
