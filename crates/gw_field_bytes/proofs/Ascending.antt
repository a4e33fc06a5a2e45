-- Lists whose elements begin with keys that ascend, in an order of the keys.
use Rattle.std.proofs.Common.{◌≡◌, ℕ, ◌-◌, ◌+◌, ◌<◌, suc, Bool, IsTrue, List, [], ◌∷◌, ◌++◌, length, get_or, slice_get, Option, Some, Decides, refl}
use Rattle.std.proofs.Common.{sym, subst, append_assoc, arith, inl, inr}
use Rattle.std.specs.Prelude.{nat_lt, int_lt, ◌<ℤ◌}
use Rattle.std.specs.List.{All, AllPairs}
use Rattle.std.specs.Option.{option_map}
use Rattle.std.proofs.Math.ListN.{get_or-append}
use Rattle.std.proofs.Math.Seq.{get_or-append_seam}
use Rattle.std.proofs.lemmas.Bool.{cases_lt}
use Rattle.std.proofs.lemmas.Bool.Decides.{Decides-ltb}
use Rattle.std.proofs.lemmas.Int.{ints}
use Rattle.std.proofs.lemmas.List.{append-nil, length-append}
use Rattle.std.proofs.lemmas.List.Quantifiers.{all_pairs_push}
use Rattle.std.proofs.lemmas.Option.{slice_get-get_or}
use Rattle.gw_fields.specs.Codes as codes
use Rattle.gw_fields.specs.Fields.{Field, field_with_test, both, is_above, ascending_element, ElementsFit}
use Rattle.gw_field_bytes.proofs.Exact.{IsExact, made_exact, tested_exact, both_exact}
use Rattle.gw_field_bytes.proofs.ExactLists.{IsExactElement}

-- ---- orders of keys

-- an order of keys, and the test that decides it
pub record IsOrder {K : Type 0} (is_below : K → K → Bool) (Below : K → K → Type 0) : Type 0 where
  pub decides : (a b : K) → Decides (is_below a b) (Below a b)
  pub transitive : (a b c : K) → Below a b → Below b c → Below a c

-- numbers by size
pub nat_order : IsOrder nat_lt (λ a b. a < b)
nat_order = record { decides = Decides-ltb; transitive = λ a b c ab bc. omega arith }

-- signed numbers by size
pub int_order : IsOrder int_lt (λ a b. a <ℤ b)
int_order = record { decides = λ a b. (λ h. omega (arith, ints), λ h. grind (arith, ints)); transitive = λ a b c ab bc. omega (arith, ints) }

-- ---- elements whose keys ascend

-- the key of the last element, if there is one
abbrev last_key : {K A : Type 0} → (A → K) → List A → Option K
last_key key front = option_map key (slice_get front (length front - 1))

pub ascending_exact : {K A B : Type 0} (is_below : K → K → Bool) (make : K × B → A) (back : A → K × B) (key : Field K) (f : Field B)
    → ((x : K × B) → back (make x) ≡ x) → ((y : A) → make (back y) ≡ y) → IsExact key → IsExact f
    → IsExactElement (ascending_element is_below make back key f)
ascending_exact {K} {A} is_below make back key f there here key_exact exact =
    let test = λ (front : List A). is_above is_below (last_key (λ x. (back x).0) front) in
    let at = λ (front : List A). made_exact make back (both (field_with_test (test front) codes.not_canonical key) f) (λ x h. there x)
    (λ y h. here y) (both_exact _ _ (tested_exact (test front) codes.not_canonical key key_exact) exact) in
    record {
      takes = λ front left. (at front).takes;
      again = λ front left. (at front).again;
      within = λ front left. (at front).within;
      cut = λ front left. (at front).cut;
    }

module _ {K : Type 0} {is_below : K → K → Bool} {Below : K → K → Type 0} (order : IsOrder is_below Below) where
  module _ {A : Type 0} (key : A → K) where
    -- keys that ascend up to a place
    abbrev pub AscendBelow : List A → ℕ → Type 0
    AscendBelow xs high = (i j : ℕ) (d : A) → i < j → j < high → Below (key (get_or xs i d)) (key (get_or xs j d))

    -- one more key, above the one before it
    pub ascend_more : (xs : List A) (n : ℕ) → ((d : A) → Below (key (get_or xs (n - 1) d)) (key (get_or xs n d))) → AscendBelow xs n → AscendBelow xs (n + 1)
    ascend_more xs n above up i j d lt below =
        elim (cases_lt j n) [
          | inl inside ↦ up i j d lt inside
          | inr past ↦
              let is_new : j ≡ n = omega arith in
              rw is_new (elim (cases_lt i (n - 1)) [
                | inl earlier ↦ order.transitive _ _ _ (up i (n - 1) d earlier (omega arith)) (above d)
                | inr next ↦ let is_last : i ≡ n - 1 = omega arith in rw is_last (above d)
              ])
        ]

    -- a key above the last of those that ascend is above all of them
    above_all : (front : List A) (k : K) → AscendBelow front (length front) → IsTrue (is_above is_below (last_key key front) k)
        → (i : ℕ) (d : A) → i < length front → Below (key (get_or front i d)) k
    above_all front k up test i d lt =
        let found : slice_get front (length front - 1) ≡ Some (get_or front (length front - 1) d) = slice_get-get_or front (length front - 1) d (omega arith) in
        let last : Below (key (get_or front (length front - 1) d)) k = (order.decides _ _).0 (rw found at test) in
        elim (cases_lt i (length front - 1)) [
          | inl earlier ↦ order.transitive _ _ _ (up i (length front - 1) d earlier (omega arith)) last
          | inr at_last ↦ let is_last : i ≡ length front - 1 = omega arith in rw is_last last
        ]

    -- a key above all of these is above the last
    above_last : (front : List A) (k : K) → ((i : ℕ) (d : A) → i < length front → Below (key (get_or front i d)) k)
        → IsTrue (is_above is_below (last_key key front) k)
    above_last [] k above = refl
    above_last (x ∷ xs) k above =
        let at = length (x ∷ xs) - 1 in
        let found : slice_get (x ∷ xs) at ≡ Some (get_or (x ∷ xs) at x) = slice_get-get_or (x ∷ xs) at x (omega arith) in
        rw found ((order.decides _ _).1 (above at x (omega arith)))

  module _ {A B : Type 0} (make : K × B → A) (back : A → K × B) (key : Field K) (f : Field B) where
    -- the key of the one is below that of the other
    abbrev AreAscending : A → A → Type 0
    AreAscending a b = Below (back a).0 (back b).0

    -- what fits a list of ascending elements ascends
    pub ascends : (xs front : List A) → AllPairs AreAscending front
        → ElementsFit (ascending_element is_below make back key f).Fits front xs → AllPairs AreAscending (front ++ xs)
    ascends [] front up h = rw (append-nil front) up
    ascends (x ∷ xs) front up h =
        subst (AllPairs AreAscending) (append_assoc front (x ∷ []) xs)
        (ascends xs (front ++ x ∷ []) (all_pairs_push AreAscending front x up (above_all (λ a. (back a).0) front (back x).0 up h.0.0.1)) h.1)

    -- elements that fit and ascend fit their list
    pub ascending_fit : (xs front : List A) → All (λ x. key.Fits (back x).0) xs → All (λ x. f.Fits (back x).1) xs
        → AllPairs AreAscending (front ++ xs) → ElementsFit (ascending_element is_below make back key f).Fits front xs
    ascending_fit [] front keys others up = tt
    ascending_fit (x ∷ xs) front keys others up =
        let whole = front ++ x ∷ xs in
        let before : (i : ℕ) (d : A) → i < length front → AreAscending (get_or front i d) x = λ i d lt.
        let pair : AreAscending (get_or whole i d) (get_or whole (length front) d) = up i (length front) d lt (omega (arith, length-append front (x ∷ xs))) in
        rw (get_or-append front (x ∷ xs) d i lt, get_or-append_seam front x xs d) at pair in (
          ((keys 0 x (omega arith), above_last (λ a. (back a).0) front (back x).0 before), others 0 x (omega arith)),
          ascending_fit xs (front ++ x ∷ []) (λ i d lt. keys (suc i) d (omega arith)) (λ i d lt. others (suc i) d (omega arith))
              (subst (AllPairs AreAscending) (sym (append_assoc front (x ∷ []) xs)) up),
        )
