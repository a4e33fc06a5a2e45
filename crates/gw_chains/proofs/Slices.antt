-- The place of a newcomer in a list that lies in two slices, one behind the other.
use Rattle.std.proofs.Common.{◌≡◌, ◌∙◌, ℕ, ◌+◌, ◌-◌, ◌<◌, ◌≤◌, List, ◌++◌, length, get_or, Bool, true, false, true≢false, refl, sym, ap, arith, inl, inr}
use Rattle.std.specs.List.Sorted.{IsPartitionedBy, IsPartitionPoint}
use Rattle.std.proofs.lemmas.Bool.{cases_order, false_from_ne_true}
use Rattle.std.proofs.lemmas.List.{length-append, get_or-append_right}
use Rattle.std.proofs.Math.ListN.{get_or-append}

module _ {A : Type 0} (p : A → Bool) where
  -- behind all that pass, and before all others
  abbrev pub IsPlace : List A → ℕ → Type 0
  IsPlace xs i = IsPartitionPoint (λ y. p y ≡ true) (λ y. p y ≡ false) xs i

  -- where it is before the end of the first slice it is that of the whole
  pub place_in_front : (xs ys : List A) (i : ℕ) → IsPartitionedBy p (xs ++ ys) → i < length xs → IsPlace xs i → IsPlace (xs ++ ys) i
  place_in_front xs ys i parts within point = (
    λ k d low high. ap p (get_or-append xs ys d k (omega (arith, high, within))) ∙ point.0 k d low high,
    λ k d low high.
        false_from_ne_true (p (get_or (xs ++ ys) k d))
        (λ passes. true≢false (sym (parts i k d low high passes) ∙ (ap p (get_or-append xs ys d i within) ∙ point.1 i d (omega arith) within))),
  )

  -- and where all of the first slice pass it is in the second
  pub place_in_back : (xs ys : List A) (i j : ℕ) → i ≡ length xs → IsPlace xs i → IsPlace ys j → IsPlace (xs ++ ys) (i + j)
  place_in_back xs ys i j ends front back = (
    λ k d low high. elim (cases_order k (length xs)) [
      | inl same ↦ behind k d (omega (arith, same)) (omega (arith, ends, high, same))
      | inr (inl under) ↦ ap p (get_or-append xs ys d k under) ∙ front.0 k d low (omega (arith, ends, under))
      | inr (inr over) ↦ behind k d (omega (arith, over)) (omega (arith, ends, high, over))
    ],
    λ k d low high.
        ap p (get_or-append_right xs ys (length xs) k d refl (omega (arith, ends, low)))
        ∙ back.1 (k - length xs) d (omega (arith, ends, low)) (omega (arith, ends, low, high, length-append xs ys)),
  )
    where
      behind : (k : ℕ) (d : A) → length xs ≤ k → k - length xs < j → p (get_or (xs ++ ys) k d) ≡ true
      behind k d past before =
          ap p (get_or-append_right xs ys (length xs) k d refl past) ∙ back.0 (k - length xs) d (omega arith) before
