use Rattle.gw_chart.specs.Lines.{points_after}
use Rattle.gw_drawing.proofs.Series.{HasUpto}
use Rattle.gw_chart.proofs.line.put_turns.Given as goal

abbrev pub invariant-loop-i : goal.invariant-loop-i
invariant-loop-i l =
    HasUpto (points_after l.curve.plot l.curve.axis l.curve.seen.now.rows.items l.curve.entity)
    l.i l.initial.out.items l.out.items
