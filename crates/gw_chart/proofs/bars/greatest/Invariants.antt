use Rattle.std.proofs.Common.{◌≡◌, ◌<◌}
use Rattle.std.specs.Prelude.{slice_index}
use Rattle.gw_drawing.specs.Numbers.{greatest}
use Rattle.gw_chart.proofs.bars.greatest.Given as goal

abbrev pub invariant-loop-i : goal.invariant-loop-i
invariant-loop-i l = (l.most ≡ greatest (slice_index l.values) l.i) × (0 < l.most)
