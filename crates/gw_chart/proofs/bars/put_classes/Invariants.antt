use Rattle.gw_chart.specs.Bars.{class}
use Rattle.gw_drawing.proofs.Series.{HasUpto}
use Rattle.gw_chart.proofs.bars.put_classes.Given as goal

abbrev pub invariant-loop-i : goal.invariant-loop-i
invariant-loop-i l =
    HasUpto (class l.plot l.axis l.table l.values)
    l.i l.initial.out.items l.out.items
