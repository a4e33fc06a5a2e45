use Rattle.gw_least_weights.specs.Circles.{IsBorne}
use Rattle.gw_least_weights.proofs.circles.walk_along.Given as goal

-- the walk is borne so far
abbrev pub invariant-loop-i : goal.invariant-loop-i
invariant-loop-i l = IsBorne l.rules l.weights l.start l.walk
