use Rattle.gw_least_weights.proofs.Gathered.{IsOn}
use Rattle.gw_least_weights.proofs.rounds.raise_in_round.Given as goal

-- the rules before are dealt with
abbrev pub invariant-loop-i : goal.invariant-loop-i
invariant-loop-i l = IsOn l.rules l.counted l.fn.weights l.weights l.raised l.i
