-- the differences so far, and those of the values that are left, are all differences
use Rattle.std.proofs.Common.{◌≡◌, ◌≤◌, ◌++◌, drop, length}
use Rattle.gw_statistics.specs.Pairs.{differences}
use Rattle.gw_statistics.proofs.pairs.differences.Given as goal

abbrev pub invariant-loop-r : goal.invariant-loop-r
invariant-loop-r l =
    (differences l.first l.second ≡ l.found.items ++ differences (drop l.r l.first) (drop l.r l.second)) × (length l.found.items ≤ l.r)
