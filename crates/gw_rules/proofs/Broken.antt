-- The first broken check, of one element after the other.
use Rattle.std.proofs.Common.{◌≡◌, ℕ, suc, ◌+◌, ◌≤◌, ◌<◌, List, [], ◌∷◌, ◌++◌, length, drop, Option, Some, None, Result, Ok, Err, Bool, true, false}
use Rattle.std.proofs.Common.{if◌then◌else◌, refl, sym, ap, ◌∙◌, arith, get_or, drop-cons}
use Rattle.std.proofs.lemmas.List.{drop_all}
use Rattle.gw_object.specs.declared.fault.Fault.{Fault}
use Rattle.gw_rules.specs.Checks.{Check, first_broken, checks_by_number, Finds}

-- the first of two faults
abbrev pub first : Option Fault → Option Fault → Option Fault
first (Some fault) other = Some fault
first None other = other

first-if : (b : Bool) (fault : Fault) (o p : Option Fault) → (if b then first o p else Some fault) ≡ first (if b then o else Some fault) p
first-if true fault o p = refl
first-if false fault o p = refl

pub first_broken-append : (cs ds : List Check) → first_broken (cs ++ ds) ≡ first (first_broken cs) (first_broken ds)
first_broken-append [] ds = refl
first_broken-append (c ∷ cs) ds =
    ap (λ o. if c.holds then o else Some c.fault) (first_broken-append cs ds) ∙ first-if c.holds c.fault (first_broken cs) (first_broken ds)

add_one : (i : ℕ) → i + 1 ≡ suc i
add_one i = omega arith

module _ {A : Type 0} (f : ℕ → A → List Check) (number : ℕ) (xs : List A) (i : ℕ) (d : A) (total : Option Fault) (below : i < length xs)
    (so_far : first_broken (checks_by_number f number (drop i xs)) ≡ total) where
  one : first (first_broken (f number (get_or xs i d))) (first_broken (checks_by_number f (number + 1) (drop (suc i) xs))) ≡ total
  one = sym (ap (λ (ys : List A). first_broken (checks_by_number f number ys)) (drop-cons xs i d below)
      ∙ first_broken-append (f number (get_or xs i d)) (checks_by_number f (number + 1) (drop (suc i) xs))) ∙ so_far

  -- nothing is broken at the element of this number: the first fault is that of the later elements
  pub goes_on : (next : ℕ) → next ≡ number + 1 → first_broken (f number (get_or xs i d)) ≡ None
      → first_broken (checks_by_number f next (drop (i + 1) xs)) ≡ total
  goes_on next is h =
      ap (λ n. first_broken (checks_by_number f n (drop (i + 1) xs))) is
      ∙ ap (λ k. first_broken (checks_by_number f (number + 1) (drop k xs))) (add_one i)
      ∙ sym (ap (λ o. first o (first_broken (checks_by_number f (number + 1) (drop (suc i) xs)))) h) ∙ one

  -- the first fault is at the element of this number
  pub stops : (fault : Fault) → first_broken (f number (get_or xs i d)) ≡ Some fault → total ≡ Some fault
  stops fault h = sym one ∙ ap (λ o. first o (first_broken (checks_by_number f (number + 1) (drop (suc i) xs)))) h

-- no element is left
pub is_done : {A : Type 0} (f : ℕ → A → List Check) (number : ℕ) (xs : List A) (i : ℕ) (total : Option Fault) → length xs ≤ i
    → first_broken (checks_by_number f number (drop i xs)) ≡ total → total ≡ None
is_done {A} f number xs i total h e = sym e ∙ ap (λ (ys : List A). first_broken (checks_by_number f number ys)) (drop_all i xs h)

-- a fault of the first checks is that of the first and further checks
pub stops_first : (cs ds : List Check) (fault : Fault) → first_broken cs ≡ Some fault → first_broken (cs ++ ds) ≡ Some fault
stops_first cs ds fault h = first_broken-append cs ds ∙ ap (λ o. first o (first_broken ds)) h

-- none of the first checks is broken: what a test of the further checks found is what all have
pub joined : {X : Type 0} (r : Result X Fault) (cs ds : List Check) → first_broken cs ≡ None → Finds r ds → Finds r (cs ++ ds)
joined (Ok x) cs ds h found = first_broken-append cs ds ∙ ap (λ o. first o (first_broken ds)) h ∙ found
joined (Err fault) cs ds h found = first_broken-append cs ds ∙ ap (λ o. first o (first_broken ds)) h ∙ found
