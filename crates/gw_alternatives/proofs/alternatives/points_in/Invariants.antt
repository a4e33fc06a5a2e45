use Rattle.std.proofs.Common.{◌≡◌, length}
use Rattle.gw_alternatives.specs.Alternatives.{ArePointsFrom}
use Rattle.gw_alternatives.proofs.alternatives.points_in.Given as goal

-- the points so far are there
abbrev pub invariant-loop-point : goal.invariant-loop-point
invariant-loop-point l = ArePointsFrom l.text l.points l.count 0 l.alternatives.items × (length l.alternatives.items ≡ l.point)
