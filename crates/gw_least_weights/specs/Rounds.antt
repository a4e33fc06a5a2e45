-- Weights that are raised in rounds.
use Rattle.std.specs.Prelude.{◌≡◌, ◌⊎◌, ℕ, ◌≤◌, ◌<◌, List, length, slice_index_or, min, All, Contains}
use Rattle.gw_object.specs.Limits.{greatest_weight}
use Rattle.gw_least_weights.specs.declared.rules.Rule.{Rule}
use Rattle.gw_least_weights.specs.Rules.{weight_at, of_sum, need_of, Keeps}
use Rattle.gw_least_weights.specs.Least.{EachAtMost, InRange, IsCertificate, Gathers}

-- what raising for one rule makes of weights: each grows, at the rule's place to what it asks for or to the greatest
-- weight, and to no more than weights have that keep the rule
pub record IsRaisedFor (r : Rule) (w v : List ℕ) : Type 0 where
  pub grown : EachAtMost w v
  pub first : min (of_sum w r.first) greatest_weight ≤ weight_at v r.at
  pub second : min (of_sum w r.second) greatest_weight ≤ weight_at v r.at
  pub below : (u : List ℕ) → Keeps u r → EachAtMost w u → EachAtMost v u
  pub range : InRange w → InRange v
  pub moved : (i : ℕ) → (weight_at v i ≡ weight_at w i) ⊎ ((i ≡ r.at) × (weight_at v i ≤ need_of w r))

-- weights that are raised in whatever order, to no more than rules ask: each grows, and to no more than any have that keep the rules
pub record IsRaised (rules : List Rule) (w v : List ℕ) : Type 0 where
  pub grown : EachAtMost w v
  pub below : (u : List ℕ) → All (Keeps u) rules → EachAtMost w u → EachAtMost v u
  pub range : InRange w → InRange v

-- weights that may stand, and are at most those of each certificate
pub record AreUnder (rules : List Rule) (count : ℕ) (w : List ℕ) : Type 0 where
  pub range : InRange w
  pub below : (u : List ℕ) → IsCertificate rules count u → EachAtMost w u

-- a gathered weight is no more than one of those that it gathers, unless it is the least
pub record IsGathered (rules : List Rule) (w : List ℕ) (place : ℕ) : Type 0 where
  pub rule : Rule
  pub there : Contains rules rule
  pub at : rule.at ≡ place
  pub most : weight_at w place ≤ weight_at w rule.first.first.place

-- and so is each
abbrev pub AreGathered : List Rule → ℕ → List ℕ → Type 0
AreGathered rules counted w = (place : ℕ) → counted ≤ place → (weight_at w place ≤ 1) ⊎ IsGathered rules w place

-- the rules that gather are kept
abbrev pub KeepsGathering : List Rule → ℕ → List ℕ → Type 0
KeepsGathering rules counted w = All (λ (r : Rule). counted ≤ r.at → Keeps w r) rules

-- what a round makes of weights: each rule has been raised for once, from weights that were at least those of the start
pub record IsRound (rules : List Rule) (counted : ℕ) (w v : List ℕ) : Type 0 where
  pub raised : IsRaised rules w v
  pub first : All (λ (r : Rule). min (of_sum w r.first) greatest_weight ≤ weight_at v r.at) rules
  pub second : All (λ (r : Rule). min (of_sum w r.second) greatest_weight ≤ weight_at v r.at) rules
  pub kept : InRange w → KeepsGathering rules counted v
  pub gathered : AreGathered rules counted w → AreGathered rules counted v

-- rules stand behind those at the place that they gather
abbrev pub StandBehind : List Rule → ℕ → Type 0
StandBehind rules counted = (i j : ℕ) (d : Rule) → i < length rules → j < length rules → counted ≤ (slice_index_or rules j d).at
    → (slice_index_or rules i d).at ≡ (slice_index_or rules j d).first.first.place → i < j

-- rules of so many places, in the order of a round
pub record AreInOrder (rules : List Rule) (counted count : ℕ) : Type 0 where
  pub within : All (λ (r : Rule). r.at < count) rules
  pub gathers : All (λ (r : Rule). counted ≤ r.at → Gathers counted r) rules
  pub behind : StandBehind rules counted
