-- Where one column has ended there are no more pairs.
use Rattle.std.proofs.Common.{◌≡◌, ◌≤◌, ◌<◌, ◌++◌, ℕ, ℤ, List, [], ◌∷◌, length, drop, min, arith, refl, ap, ◌∙◌, inl, inr, append-nil}
use Rattle.std.specs.Prelude.{Option}
use Rattle.std.proofs.lemmas.Bool.{cases_lt}
use Rattle.std.proofs.lemmas.List.{drop_all}
use Rattle.gw_statistics.specs.Pairs.{differences}

none_second : (xs : List (Option ℤ)) → differences xs [] ≡ []
unfolding differences
none_second [] = refl
none_second (x ∷ xs) = refl

none_first : (ys : List (Option ℤ)) → differences [] ys ≡ []
unfolding differences
none_first ys = refl

pub none_left : (xs ys : List (Option ℤ)) (r : ℕ) → min (length xs) (length ys) ≤ r → differences (drop r xs) (drop r ys) ≡ []
none_left xs ys r h = elim (cases_lt r (length xs)) [
  | inl within ↦ ap (λ zs. differences (drop r xs) zs) (drop_all r ys (omega (arith, h, within))) ∙ none_second (drop r xs)
  | inr over ↦ ap (λ zs. differences zs (drop r ys)) (drop_all r xs over) ∙ none_first (drop r ys)
]

-- the differences so far are all, where none is left
pub all_found : (all found left : List ℤ) → all ≡ found ++ left → left ≡ [] → found ≡ all
all_found all found left h none = rw (h, none) (simp append-nil)
