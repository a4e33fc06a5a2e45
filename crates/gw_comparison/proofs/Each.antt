-- What is added for each of several.
use Rattle.std.proofs.Common.{◌≡◌, List, [], ◌∷◌, ◌++◌, ℕ, refl, subst}
use Rattle.gw_comparison.specs.Sheets.{AddsEach}

-- nothing for none
pub none : {X : Type 0} (Adds : X → List ℕ → List ℕ → Type 0) (old : List ℕ) → AddsEach Adds [] old old
unfolding AddsEach
none Adds old = refl

-- and what is added for one more
pub one_more : {X : Type 0} (Adds : X → List ℕ → List ℕ → Type 0) (xs : List X) (x : X) (old middle new : List ℕ)
    → AddsEach Adds xs old middle → Adds x middle new → AddsEach Adds (xs ++ x ∷ []) old new
unfolding AddsEach
one_more Adds [] x old middle new same h = (new, subst (λ from. Adds x from new) same h, refl)
one_more Adds (y ∷ xs) x old middle new (next, first, rest) h = (next, first, one_more Adds xs x next middle new rest h)
