-- A derived `==` answers true only for equal values where those of the fields do.
use Rattle.std.proofs.Common.{◌≡◌, [], ◌∷◌, Some, None, Bool, true, false, refl, sym, ap, ◌∙◌, subst}
use Rattle.std.specs.Prelude.{◌&&◌, nat_eq}
use Rattle.std.specs.Option.{option_eq}
use Rattle.std.specs.Ordering.{int_eq}
use Rattle.std.specs.Cmp.{IsEquivalence, signed_Decides, unsigned_Decides, booleans_Decides, first_so, second_so}
use Rattle.std.specs.Cmp.Lexicographic.{pointwise}
use mathlib.Core.Bool.{true≢false, beq}
use mathlib.Core.Logic.{◌⊎◌, ⊎_elim, inl, inr}
use denote.Enum.Declared.{Choice, Record, values_one}
use Rattle.gw_equality.specs.Same.{TellsApart}

-- it answers true only for equal values
abbrev pub OnlyEqual : {K : Type 0} → (K → K → Bool) → Type 0
OnlyEqual {K} E = (x y : K) → E x y ≡ true → x ≡ y

-- an equivalence that answers true only for equal values tells them apart
pub apart : {K : Type 0} {E : K → K → Bool} → IsEquivalence E → OnlyEqual E → TellsApart E
apart {K} {E} equivalence only x y = (only x y, λ same. subst (λ z. E x z ≡ true) same (equivalence.refl x))

-- NUMBERS, OPTIONS AND LISTS

pub nat_only : OnlyEqual nat_eq
nat_only x y h = (unsigned_Decides x y).0 h

pub int_only : OnlyEqual int_eq
int_only x y h = (signed_Decides x y).0 h

pub bool_only : OnlyEqual beq
bool_only x y h = (booleans_Decides x y).0 h

pub option_only : {K : Type 0} {E : K → K → Bool} → OnlyEqual E → OnlyEqual (option_eq E)
option_only only None None h = refl
option_only only None (Some y) h = absurd (true≢false (sym h))
option_only only (Some x) None h = absurd (true≢false (sym h))
option_only only (Some x) (Some y) h = ap (λ z. Some z) (only x y h)

pub list_only : {K : Type 0} {E : K → K → Bool} → OnlyEqual E → OnlyEqual (pointwise E)
list_only only [] [] h = refl
list_only only [] (y ∷ ys) h = absurd (true≢false (sym h))
list_only only (x ∷ xs) [] h = absurd (true≢false (sym h))
list_only {K} {E} only (x ∷ xs) (y ∷ ys) h =
    let first = only x y (first_so (E x y) (pointwise E xs ys) h) in
    let rest = list_only only xs ys (second_so (E x y) (pointwise E xs ys) h) in
    λ i. first i ∷ rest i

-- STRUCTS: `==` tests the fields, one after the other

-- the first field, and then the others
infixr 30 ◌⊗◌
pub ◌⊗◌ : {A B : Type 0} {E : A → A → Bool} {F : B → B → Bool} → OnlyEqual E → OnlyEqual F → OnlyEqual (λ (x y : A × B). E x.0 y.0 && F x.1 y.1)
◌⊗◌ {A} {B} {E} {F} only others x y h =
    let first = only x.0 y.0 (first_so (E x.0 y.0) (F x.1 y.1) h) in
    let rest = others x.1 y.1 (second_so (E x.0 y.0) (F x.1 y.1) h) in
    λ i. (first i, rest i)

-- two values of a struct that have the same fields are equal
pub of_fields : {K T : Type 0} {E : T → T → Bool} (fields : K → T) (of : T → K) → ((x : K) → of (fields x) ≡ x) → OnlyEqual E
    → OnlyEqual (λ (x y : K). E (fields x) (fields y))
of_fields fields of whole only x y h = sym (whole x) ∙ ap of (only (fields x) (fields y) h) ∙ whole y

-- ENUMS: a value is the choice of a variant, with its fields; `==` tests whether both choose the first variant, and else goes on among the others

-- the first variant has one field, and then come the others
infixr 30 ◌⊕◌
pub ◌⊕◌ : {A B : Type 0} {E : A → A → Bool} {F : B → B → Bool} → OnlyEqual E → OnlyEqual F
    → OnlyEqual (λ (c d : (A × Unit {0}) ⊎ B). ⊎_elim (λ x. ⊎_elim (λ y. E x.0 y.0) (λ _. false) d) (λ x. ⊎_elim (λ _. false) (λ y. F x y) d) c)
◌⊕◌ only others (inl x) (inl y) h = λ i. inl (only x.0 y.0 h i, tt)
◌⊕◌ only others (inl x) (inr y) h = absurd (true≢false (sym h))
◌⊕◌ only others (inr x) (inl y) h = absurd (true≢false (sym h))
◌⊕◌ only others (inr x) (inr y) h = ap inr (others x y h)

-- the first variant has no field, and then come the others
pub bare : {B : Type 0} {F : B → B → Bool} → OnlyEqual F
    → OnlyEqual (λ (c d : Unit {0} ⊎ B). ⊎_elim (λ x. ⊎_elim (λ y. true) (λ _. false) d) (λ x. ⊎_elim (λ _. false) (λ y. F x y) d) c)
bare others (inl x) (inl y) h = refl
bare others (inl x) (inr y) h = absurd (true≢false (sym h))
bare others (inr x) (inl y) h = absurd (true≢false (sym h))
bare others (inr x) (inr y) h = ap inr (others x y h)

-- there is no further variant
pub no_more : OnlyEqual (λ (x y : ⊥). absurd x)
no_more x y h = absurd x

-- two values of an enum that make the same choice are equal
pub of_choices : (N : Record) {E : Choice N.parts → Choice N.parts → Bool} → OnlyEqual E → OnlyEqual (λ (x y : N.D). E (N.as_values x) (N.as_values y))
of_choices N only x y h = values_one N x y (only (N.as_values x) (N.as_values y) h)
