-- The least weights that keep rules.
use Rattle.std.specs.Prelude.{◌≡◌, ℕ, ◌≤◌, ◌<◌, List, length, All}
use Rattle.gw_least_weights.specs.declared.rules.Rule.{Rule}
use Rattle.gw_least_weights.specs.Rules.{weight_at, IsWeight, Keeps, once, nothing}

-- as many weights as others, and each at most the other one
pub record EachAtMost (w u : List ℕ) : Type 0 where
  pub many : length w ≡ length u
  pub each : (i : ℕ) → weight_at w i ≤ weight_at u i

-- each is a number that may stand as a weight
abbrev pub InRange : List ℕ → Type 0
InRange w = (i : ℕ) → i < length w → IsWeight (weight_at w i)

-- weights that keep all rules
pub record IsCertificate (rules : List Rule) (count : ℕ) (w : List ℕ) : Type 0 where
  pub many : length w ≡ count
  pub range : InRange w
  pub keeps : All (Keeps w) rules

-- where any weights keep all rules, these do, and each is at most the other's
abbrev pub IsLeast : List Rule → ℕ → List ℕ → Type 0
IsLeast rules count w = (u : List ℕ) → IsCertificate rules count u → IsCertificate rules count w × EachAtMost w u

-- a rule gathers: it asks for the weight at a counted place alone
pub record Gathers (counted : ℕ) (r : Rule) : Type 0 where
  pub inside : r.first.first.place < counted
  pub first : r.first ≡ once r.first.first.place
  pub second : r.second ≡ nothing

-- the rules at the place that a rule gathers have their turns before it
abbrev pub ComesBehind : List Rule → Rule → Type 0
ComesBehind rules gathering = All (λ (r : Rule). r.at ≡ gathering.first.first.place → r.turn < gathering.turn) rules

-- rules of so many places: the first of them are counted, and each rule at another one gathers, behind the turns of what it gathers
pub record IsSystem (rules : List Rule) (counted count : ℕ) : Type 0 where
  pub within : All (λ (r : Rule). r.at < count) rules
  pub gathers : All (λ (r : Rule). counted ≤ r.at → Gathers counted r) rules
  pub behind : All (λ (r : Rule). counted ≤ r.at → ComesBehind rules r) rules
