-- Checks of one element after the other hold exactly where those of each element do.
use Rattle.std.proofs.Common.{◌≡◌, ℕ, zero, suc, ◌+◌, List, [], ◌∷◌, ◌++◌, Option, Some, None, Bool, true, false, if◌then◌else◌, refl, sym, ap, ◌∙◌, arith}
use Rattle.std.specs.Prelude.{slice_get}
use Rattle.std.specs.List.{All}
use Rattle.std.proofs.lemmas.List.Elements.{All-nil, All-cons, All-head, All-tail}
use Rattle.gw_object.specs.declared.fault.Fault.{Fault}
use Rattle.gw_rules.specs.Checks.{Check, first_broken, checks_by_number}
use Rattle.gw_rules.proofs.Broken.{first, first_broken-append}

-- none of these checks is broken
abbrev pub Hold : List Check → Type 0
Hold cs = first_broken cs ≡ None

-- the first of some checks, and the others
pub first_and_others : (holds : Bool) (later : Option Fault) (fault : Fault) → (if holds then later else Some fault) ≡ None → (holds ≡ true) × (later ≡ None)
first_and_others true later fault h = (refl, h)
first_and_others false later fault h = absurd (cc)

pub first_with_others : (holds : Bool) (later : Option Fault) (fault : Fault) → holds ≡ true → later ≡ None → (if holds then later else Some fault) ≡ None
first_with_others true later fault h k = k
first_with_others false later fault h k = absurd (cc)

-- the first of two faults is none only where neither is one
neither : (o p : Option Fault) → first o p ≡ None → (o ≡ None) × (p ≡ None)
neither None p h = (refl, h)
neither (Some fault) p h = absurd (cc)

-- where checks hold, so do their first ones, and the others
pub parts_hold : (cs ds : List Check) → Hold (cs ++ ds) → Hold cs × Hold ds
parts_hold cs ds h = neither (first_broken cs) (first_broken ds) (sym (first_broken-append cs ds) ∙ h)

pub hold_together : (cs ds : List Check) → Hold cs → Hold ds → Hold (cs ++ ds)
hold_together cs ds h k = first_broken-append cs ds ∙ ap (λ o. first o (first_broken ds)) h ∙ k

module _ {A : Type 0} (f : ℕ → A → List Check) where
  -- the same by an equal number
  pub at_number : {b c : ℕ} (x : A) → b ≡ c → Hold (f c x) → Hold (f b x)
  at_number x e h = ap (λ k. first_broken (f k x)) e ∙ h

  -- where the checks of the elements from a number on hold, so do those of each of them
  pub each_holds : (b : ℕ) (xs : List A) (i : ℕ) (y : A) → Hold (checks_by_number f b xs) → slice_get xs i ≡ Some y → Hold (f (b + i) y)
  each_holds b [] i y h is = absurd (cc)
  each_holds b (x ∷ xs) zero y h is =
      let same : y ≡ x = cc in
      at_number y (omega arith) (ap (λ z. first_broken (f b z)) same ∙ (parts_hold (f b x) (checks_by_number f (b + 1) xs) h).0)
  each_holds b (x ∷ xs) (suc i) y h is =
      at_number y (omega arith) (each_holds (b + 1) xs i y (parts_hold (f b x) (checks_by_number f (b + 1) xs) h).1 is)

  pub all_hold : (b : ℕ) (xs : List A) → ((i : ℕ) (y : A) → slice_get xs i ≡ Some y → Hold (f (b + i) y)) → Hold (checks_by_number f b xs)
  all_hold b [] h = refl
  all_hold b (x ∷ xs) h =
      hold_together (f b x) (checks_by_number f (b + 1) xs)
      (at_number x (omega arith) (h 0 x refl))
      (all_hold (b + 1) xs (λ i y is. at_number y (omega arith) (h (suc i) y is)))

  -- where the number doesn't matter
  pub each_has : (P : A → Type 0) → ((b : ℕ) (x : A) → Hold (f b x) → P x) → (b : ℕ) (xs : List A) → Hold (checks_by_number f b xs) → All P xs
  each_has P has b [] h = All-nil P
  each_has P has b (x ∷ xs) h =
      let two = parts_hold (f b x) (checks_by_number f (b + 1) xs) h in
      All-cons P x xs (has b x two.0) (each_has P has (b + 1) xs two.1)

  pub from_each : (P : A → Type 0) → ((b : ℕ) (x : A) → P x → Hold (f b x)) → (b : ℕ) (xs : List A) → All P xs → Hold (checks_by_number f b xs)
  from_each P holds b [] h = refl
  from_each P holds b (x ∷ xs) h =
      hold_together (f b x) (checks_by_number f (b + 1) xs) (holds b x (All-head P x xs h)) (from_each P holds (b + 1) xs (All-tail P x xs h))
