-- The first broken check of each element of a list.
use Rattle.std.proofs.Common.{◌≡◌, ℕ, suc, ◌+◌, ◌<◌, List, length, drop, Option, Some, None, sym, ap, ◌∙◌, arith, get_or, drop-cons}
use Rattle.std.specs.List.{flat_map}
use Rattle.gw_object.specs.declared.fault.Fault.{Fault}
use Rattle.gw_rules.specs.Checks.{Check, first_broken}
use Rattle.gw_rules.proofs.Broken.{first, first_broken-append}

module _ {A : Type 0} (f : A → List Check) (xs : List A) (i : ℕ) (d : A) (total : Option Fault) (below : i < length xs)
    (so_far : first_broken (flat_map f (drop i xs)) ≡ total) where
  one : first (first_broken (f (get_or xs i d))) (first_broken (flat_map f (drop (i + 1) xs))) ≡ total
  one =
      let next : suc i ≡ i + 1 = omega arith in
      ap (λ k. first (first_broken (f (get_or xs i d))) (first_broken (flat_map f (drop k xs)))) (sym next)
      ∙ sym (ap (λ (ys : List A). first_broken (flat_map f ys)) (drop-cons xs i d below)
      ∙ first_broken-append (f (get_or xs i d)) (flat_map f (drop (suc i) xs))) ∙ so_far

  -- nothing is broken at this element: the first fault is that of the later ones
  pub goes_on : first_broken (f (get_or xs i d)) ≡ None → first_broken (flat_map f (drop (i + 1) xs)) ≡ total
  goes_on h = sym (ap (λ o. first o (first_broken (flat_map f (drop (i + 1) xs)))) h) ∙ one

  -- the first fault is at this element
  pub stops : (fault : Fault) → first_broken (f (get_or xs i d)) ≡ Some fault → total ≡ Some fault
  stops fault h = sym one ∙ ap (λ o. first o (first_broken (flat_map f (drop (i + 1) xs)))) h
