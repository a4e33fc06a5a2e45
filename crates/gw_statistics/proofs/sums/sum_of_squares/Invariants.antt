use Rattle.std.proofs.Common.{◌≡◌, ◌≤◌, ◌*◌, take}
use Rattle.std.specs.List.{sum_by}
use Rattle.gw_statistics.specs.Summaries.{square, most_distance}
use Rattle.gw_statistics.proofs.sums.sum_of_squares.Given as goal

abbrev pub invariant-loop-value : goal.invariant-loop-value
invariant-loop-value l = (l.sum ≡ sum_by (square l.from) (take l.value-index l.values)) × (l.sum ≤ l.value-index * (most_distance * most_distance))
