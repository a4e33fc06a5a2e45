use Rattle.gw_least_weights.specs.Rounds.{IsRaised}
use Rattle.gw_least_weights.proofs.sweeps.settle_along.Given as goal

-- the weights were raised
abbrev pub invariant-loop : goal.invariant-loop
invariant-loop l = IsRaised l.rules l.fn.weights l.weights
