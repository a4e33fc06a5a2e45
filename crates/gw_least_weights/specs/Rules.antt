-- Rules of weights, and what they ask for.
use Rattle.std.specs.Prelude.{ℕ, ◌+◌, ◌-◌, ◌*◌, ◌≤◌, List, length, slice_index_or, set, min, max, Bool, ◌&&◌, nat_lt, if◌then◌else◌}
use Rattle.gw_object.specs.Limits.{greatest_weight}
use Rattle.gw_least_weights.specs.declared.rules.Term.{Term}
use Rattle.gw_least_weights.specs.declared.rules.Sum.{Sum}
use Rattle.gw_least_weights.specs.declared.rules.Rule.{Rule}

-- a number that may stand as a weight
abbrev pub IsWeight : ℕ → Type 0
IsWeight weight = (1 ≤ weight) × (weight ≤ greatest_weight)

-- the weight at a place, from 0; 0 where there is none
abbrev pub weight_at : List ℕ → ℕ → ℕ
weight_at weights place = slice_index_or weights place 0

-- so many times the weight at a place
abbrev pub of_term : List ℕ → Term → ℕ
of_term weights t = t.times * weight_at weights t.place

-- a sum by these weights
abbrev pub of_sum : List ℕ → Sum → ℕ
of_sum weights s = s.own + of_term weights s.first + of_term weights s.second - s.less

-- the sum that asks for nothing
abbrev pub nothing : Sum
nothing = record { own = 0; first = record { times = 0; place = 0 }; second = record { times = 0; place = 0 }; less = 0 }

-- the sum that is the weight at a place
abbrev pub once : ℕ → Sum
once place = record { own = 0; first = record { times = 1; place = place }; second = record { times = 0; place = 0 }; less = 0 }

-- what a rule asks for by these weights
abbrev pub need_of : List ℕ → Rule → ℕ
need_of weights r = max (of_sum weights r.first) (of_sum weights r.second)

-- weights keep a rule: each of its sums is at most the weight at its place
abbrev pub Keeps : List ℕ → Rule → Type 0
Keeps weights r = (of_sum weights r.first ≤ weight_at weights r.at) × (of_sum weights r.second ≤ weight_at weights r.at)

-- whether there is a weight at a place, and it is below what is needed there and below the greatest weight
abbrev pub is_below : List ℕ → ℕ → ℕ → Bool
is_below weights place need_of = nat_lt place (length weights) && nat_lt (slice_index_or weights place 0) (min need_of greatest_weight)

-- the weights, with the one at a place raised to what is needed there, or to the greatest weight
abbrev pub raised_at : List ℕ → ℕ → ℕ → List ℕ
raised_at weights place need_of = if is_below weights place need_of then set weights place (min need_of greatest_weight) else weights
