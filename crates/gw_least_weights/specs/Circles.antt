-- Circles of rules that no weights keep.
use Rattle.std.specs.Prelude.{ℕ, ◌+◌, ◌≤◌, List, All}
use Rattle.gw_least_weights.specs.declared.rules.Rule.{Rule}
use Rattle.gw_least_weights.specs.declared.rules.Sum.{Sum}
use Rattle.gw_least_weights.specs.declared.rules.Term.{Term}
use Rattle.gw_least_weights.specs.declared.circles.Walk.{Walk}
use Rattle.gw_least_weights.specs.Rules.{weight_at, of_term, Keeps}
use Rattle.gw_least_weights.specs.Least.{EachAtMost}

-- a sum counts a place, and besides it at least this term
abbrev pub Leaves : Sum → ℕ → Term → Type 0
Leaves s place other = (u : List ℕ) → weight_at u place + of_term u other ≤ of_term u s.first + of_term u s.second

-- by these weights, the one that a walk has come to and what was taken off are at least that at its start and what was added
abbrev pub Bears : List ℕ → ℕ → Walk → Type 0
Bears u start k = weight_at u start + k.added ≤ weight_at u k.place + k.taken

-- by all weights that are so, and at least these, where that holds of a walk it holds of how it goes on
abbrev pub CarriesOn : (List ℕ → Type 0) → List ℕ → Walk → Walk → Type 0
CarriesOn Are w before behind = (u : List ℕ) (start : ℕ) → EachAtMost w u → Are u → Bears u start before → Bears u start behind

-- it holds by all weights that keep the rules, and are at least these
abbrev pub IsBorne : List Rule → List ℕ → ℕ → Walk → Type 0
IsBorne rules w start k = (u : List ℕ) → EachAtMost w u → All (Keeps u) rules → Bears u start k

-- no weights keep the rules that are at least these
abbrev pub KeepNone : List Rule → List ℕ → Type 0
KeepNone rules w = (u : List ℕ) → EachAtMost w u → All (Keeps u) rules → ⊥
