-- One of several values, by a byte, is exact.
use Rattle.std.proofs.Common.{◌≡◌, ℕ, ◌≤◌, true, false, eqb, List, [], ◌∷◌, length, Option, Some, None, Ok, Err, refl, sym, ap, arith, inl, inr}
use Rattle.std.proofs.lemmas.Bool.{eqb-true}
use Rattle.gw_fields.specs.Codes as codes
use Rattle.gw_fields.specs.declared.error.Bad.{Bad}
use Rattle.gw_fields.specs.Fields.{bad, value_of, value_read, one_of, flag_byte, flag}
use Rattle.gw_field_bytes.proofs.Exact.{IsBytes, IsBytes-rest, Takes, IsExact, CutsFronts, chosen, ok_is, err_is, not_both, byte_exact, no_front, front_tail}

-- each value is found again by its byte
abbrev pub AreFound : {A : Type 0} → (A → ℕ) → List A → Type 0
AreFound {A} byte_of values = (x : A) → value_of byte_of values (byte_of x) ≡ Some x

-- a value that is found by a byte is one for which it stands
stands_for : {A : Type 0} (byte_of : A → ℕ) (values : List A) (b : ℕ) (x : A) → value_of byte_of values b ≡ Some x → b ≡ byte_of x
stands_for byte_of [] b x e = absurd cc
stands_for byte_of (y ∷ values) b x e =
    elim (chosen (eqb b (byte_of y)) (Some y) (value_of byte_of values b) (Some x) e) [
      | inl is ↦ let same : y ≡ x = cc in rw (← same) (eqb-true b (byte_of y) is.0)
      | inr other ↦ stands_for byte_of values b x other.1
    ]

value_ok : {A : Type 0} (o : Option A) (bytes rest : List ℕ) (x : A × List ℕ) → value_read o bytes rest ≡ Ok x → (o ≡ Some x.0) × (rest ≡ x.1)
value_ok None bytes rest x e = not_both x (bad codes.tag bytes) (sym e)
value_ok (Some y) bytes rest x e = let whole = ok_is (y, rest) x e in (ap (λ z. Some z.0) whole, ap (λ z. z.1) whole)

value_err : {A : Type 0} (o : Option A) (bytes rest : List ℕ) (e : Bad) → value_read o bytes rest ≡ Err e → e.left ≤ length bytes
value_err None bytes rest e h = rw (← err_is (bad codes.tag bytes) e h) (omega arith)
value_err (Some y) bytes rest e h = not_both (y, rest) e h

one_takes : {A : Type 0} (byte_of : A → ℕ) (values : List A) (bytes : List ℕ) (x : A × List ℕ) → IsBytes bytes
    → (one_of byte_of values).read bytes ≡ Ok x → Takes bytes (byte_of x.0 ∷ []) x.1 × Unit {0}
one_takes byte_of values [] x fits e = absurd cc
one_takes byte_of values (b ∷ rest) x fits e =
    let found = value_ok (value_of byte_of values b) (b ∷ rest) rest x e in
    let is : b ≡ byte_of x.0 = stands_for byte_of values b x.0 found.0 in
    (record { parts = rw (is, found.1) refl; rest_fits = rw (← found.1) (IsBytes-rest b rest fits) }, tt)

one_within : {A : Type 0} (byte_of : A → ℕ) (values : List A) (bytes : List ℕ) (e : Bad) → IsBytes bytes
    → (one_of byte_of values).read bytes ≡ Err e → e.left ≤ length bytes
one_within byte_of values [] e fits h = byte_exact.within [] e fits cc
one_within byte_of values (b ∷ rest) e fits h = value_err (value_of byte_of values b) (b ∷ rest) rest e h

one_cut : {A : Type 0} (byte_of : A → ℕ) (values : List A) (x : A) → CutsFronts (one_of byte_of values).read (byte_of x ∷ [])
one_cut byte_of values x [] begins = refl
one_cut byte_of values x (b ∷ front) begins = no_front front (front_tail (byte_of x) b [] front begins).1

pub one_of_exact : {A : Type 0} (byte_of : A → ℕ) (values : List A) → AreFound byte_of values → IsExact (one_of byte_of values)
one_of_exact byte_of values found = record {
  takes = one_takes byte_of values;
  again = λ x rest fits. rw (found x) refl;
  within = one_within byte_of values;
  cut = λ x fits. one_cut byte_of values x;
}

flags_are_found : AreFound flag_byte (false ∷ true ∷ [])
flags_are_found false = refl
flags_are_found true = refl

pub flag_exact : IsExact flag
flag_exact = one_of_exact flag_byte (false ∷ true ∷ []) flags_are_found
