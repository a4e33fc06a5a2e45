-- The first of a list that passes a test: it is found and changed at its place.
use Rattle.std.proofs.Common.{◌≡◌, ℕ, zero, suc, ◌+◌, ◌<◌, Bool, true, false, cond, not, List, [], ◌∷◌, length, set, get_or, Some, None, refl, sym}
use Rattle.std.proofs.Common.{ap, arith, ◌≤◌}
use Rattle.std.proofs.lemmas.Grind.{common_steps}
use Rattle.std.specs.List.{find, position, position_or_len}
use Rattle.gw_members.specs.Firsts.{with_first_changed}

module _ {A : Type 0} (passes : A → Bool) where
  -- where it stands
  pub is_place : (xs : List A) (i : ℕ) → position passes xs ≡ Some i → i ≡ position_or_len passes xs
  is_place xs i at = grind (arith, common_steps)

  pub is_within : (xs : List A) (i : ℕ) → position passes xs ≡ Some i → i < length xs
  is_within xs i at = grind (arith, common_steps)

  found_first : (xs : List A) (i : ℕ) (x : A) → i ≡ position_or_len passes xs → i < length xs → x ≡ get_or xs i x → find passes xs ≡ Some x
  found_first [] i x at within is = absurd (omega (arith, within))
  found_first (y ∷ ys) zero x at within is = by_test (passes y) at
    where
      by_test : (b : Bool) → 0 ≡ cond (not b) (1 + position_or_len passes ys) 0 → cond b (Some y) (find passes ys) ≡ Some x
      by_test true here = ap Some (sym is)
      by_test false here = absurd (omega (arith, here))
  found_first (y ∷ ys) (suc i) x at within is = by_test (passes y) at (λ here. found_first ys i x here (omega (arith, within)) is)
    where
      by_test : (b : Bool) → suc i ≡ cond (not b) (1 + position_or_len passes ys) 0
          → (i ≡ position_or_len passes ys → find passes ys ≡ Some x) → cond b (Some y) (find passes ys) ≡ Some x
      by_test true here rest = absurd (omega (arith, here))
      by_test false here rest = rest (omega (arith, here))

  changed_first : (change : A → A) (xs : List A) (i : ℕ) (x : A) → i ≡ position_or_len passes xs → i < length xs → x ≡ get_or xs i x
      → set xs i (change x) ≡ with_first_changed passes change xs
  changed_first change [] i x at within is = absurd (omega (arith, within))
  changed_first change (y ∷ ys) zero x at within is = by_test (passes y) at
    where
      by_test : (b : Bool) → 0 ≡ cond (not b) (1 + position_or_len passes ys) 0 → change x ∷ ys
          ≡ cond b (change y ∷ ys) (y ∷ with_first_changed passes change ys)
      by_test true here = ap (λ z. change z ∷ ys) is
      by_test false here = absurd (omega (arith, here))
  changed_first change (y ∷ ys) (suc i) x at within is = by_test (passes y) at (λ here. changed_first change ys i x here (omega (arith, within)) is)
    where
      by_test : (b : Bool) → suc i ≡ cond (not b) (1 + position_or_len passes ys) 0
          → (i ≡ position_or_len passes ys → set ys i (change x) ≡ with_first_changed passes change ys) → y ∷ set ys i (change x)
          ≡ cond b (change y ∷ ys) (y ∷ with_first_changed passes change ys)
      by_test true here rest = absurd (omega (arith, here))
      by_test false here rest = ap (λ zs. y ∷ zs) (rest (omega (arith, here)))

  -- where it has a place
  module _ (xs : List A) (i : ℕ) (at : position passes xs ≡ Some i) where
    pub found : (x : A) → x ≡ get_or xs i x → find passes xs ≡ Some x
    found x = found_first xs i x (is_place xs i at) (is_within xs i at)

    pub changed : (change : A → A) (x : A) → x ≡ get_or xs i x → set xs i (change x) ≡ with_first_changed passes change xs
    changed change x = changed_first change xs i x (is_place xs i at) (is_within xs i at)

  -- where it has none
  is_past : (xs : List A) → position passes xs ≡ None → length xs ≤ position_or_len passes xs
  is_past xs at = grind (arith, common_steps)

  missed_all : (xs : List A) → length xs ≤ position_or_len passes xs → find passes xs ≡ None
  missed_all [] past = refl
  missed_all (y ∷ ys) past = by_test (passes y) past (missed_all ys)
    where
      by_test : (b : Bool) → suc (length ys) ≤ cond (not b) (1 + position_or_len passes ys) 0
          → (length ys ≤ position_or_len passes ys → find passes ys ≡ None) → cond b (Some y) (find passes ys) ≡ None
      by_test true beyond rest = absurd (omega (arith, beyond))
      by_test false beyond rest = rest (omega (arith, beyond))

  pub missed : (xs : List A) → position passes xs ≡ None → find passes xs ≡ None
  missed xs at = missed_all xs (is_past xs at)
