use Rattle.std.proofs.Common.{◌≡◌}
use Rattle.gw_chart.specs.Axes.{deepest}
use Rattle.gw_chart.specs.Lines.{depth_in}
use Rattle.gw_chart.proofs.line.least_in.Given as goal

abbrev pub invariant-loop-i : goal.invariant-loop-i
invariant-loop-i l = l.depth ≡ deepest (depth_in l.bands l.entity) l.i
