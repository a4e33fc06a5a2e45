-- Walks along sums, and circles of them.
use Rattle.std.proofs.Common.{ℕ, zero, suc, ◌*◌, ◌≤◌, ◌<◌, List, arith}
use Rattle.gw_least_weights.specs.declared.rules.Term.{Term}
use Rattle.gw_least_weights.specs.Rules.{weight_at, of_term}

-- so many times a number is at least the number, unless it is none
times : (n x : ℕ) → 0 < n → x ≤ n * x
times zero x h = absurd (omega (arith, h))
times (suc n) x h = omega arith

-- a term that counts asks for the weight at its place at least
pub counts : (t : Term) (u : List ℕ) → 0 < t.times → weight_at u t.place ≤ of_term u t
counts t u h = times t.times (weight_at u t.place) h
