use Rattle.gw_least_weights.specs.Rounds.{IsRaised}
use Rattle.gw_least_weights.proofs.sweeps.sweep.Given as goal

-- the weights were raised
abbrev pub invariant-loop-i : goal.invariant-loop-i
invariant-loop-i l = IsRaised l.rules l.fn.weights l.weights
