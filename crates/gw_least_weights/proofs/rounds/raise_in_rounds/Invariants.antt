use Rattle.std.proofs.Common.{◌+◌, ◌-◌, length}
use Rattle.gw_least_weights.proofs.Reached.{IsNear}
use Rattle.gw_least_weights.proofs.rounds.raise_in_rounds.Given as goal

-- so near are the weights to each certificate as rounds are left
abbrev pub invariant-loop : goal.invariant-loop
invariant-loop l = IsNear l.rules l.counted (length l.fn.weights) (l.counted + 1 - l.counter) l.weights
