use Rattle.std.proofs.Common.{◌≡◌, ◌++◌}
use Rattle.gw_drawing.specs.Text.{upto}
use Rattle.gw_chart.specs.Plots.{level}
use Rattle.gw_chart.proofs.plot.put_lower_levels.Given as goal

abbrev pub invariant-loop-i : goal.invariant-loop-i
invariant-loop-i l = l.out.items ≡ l.initial.out.items ++ upto (level l.plot l.axis) l.i
