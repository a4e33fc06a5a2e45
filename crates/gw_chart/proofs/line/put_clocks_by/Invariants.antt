use Rattle.gw_chart.specs.Lines.{clock_at}
use Rattle.gw_drawing.proofs.Series.{HasUpto}
use Rattle.gw_chart.proofs.line.put_clocks_by.Given as goal

abbrev pub invariant-loop-i : goal.invariant-loop-i
invariant-loop-i l =
    HasUpto (clock_at l.plot l.from l.span l.step)
    l.i l.initial.out.items l.out.items
