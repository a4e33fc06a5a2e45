use Rattle.std.proofs.Common.{◌≡◌, ◌<◌}
use Rattle.gw_drawing.specs.Numbers.{greatest}
use Rattle.gw_chart.specs.Lines.{height_in}
use Rattle.gw_chart.proofs.line.most_in.Given as goal

abbrev pub invariant-loop-i : goal.invariant-loop-i
invariant-loop-i l = (l.most ≡ greatest (height_in l.bands l.entity) l.i) × (0 < l.most)
