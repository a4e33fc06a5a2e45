-- Numbers that are nobody else's.
use Rattle.std.proofs.Common.{◌≡◌, ℕ, zero, suc, ◌+◌, ◌≤◌, ◌⊎◌, inl, inr, List, [], ◌∷◌, ◌++◌, length, cond, Option, Some, None, Bool, true, false}
use Rattle.std.proofs.Common.{◌&&◌, refl, sym, ap, subst, ◌∙◌, arith}
use Rattle.std.specs.Prelude.{slice_get, option_and_then}
use Rattle.std.specs.List.{position_from}
use Rattle.std.specs.Str.{bytes_eq}
use Rattle.std.specs.Cmp.Lexicographic.{nat_list_eq_equiv}
use Rattle.std.proofs.lemmas.List.{append-nil}
use Rattle.std.proofs.lemmas.Bool.{false≢true}
use Rattle.std.proofs.lemmas.Slice.Eq.{bytes_eq-Decides}
use Rattle.gw_text.specs.declared.model.Statement.{Statement}
use Rattle.gw_name_uses.specs.Sites.{Mentioned, mentioned_in}
use Rattle.gw_names.specs.Known.{Key, is_same, is_same_kind}
use Rattle.gw_names.specs.Sights.{number_among, parameter_of, parameters_of, is_used, unless_used, free_up_to, free_numbers}
use Rattle.gw_names.specs.Laws.{IsFree}
use Rattle.gw_names.proofs.Seeing.{same_kind, both_true, same_keys}

-- PLACES

past_by : (b : Bool) (k i : ℕ) (rest : Option ℕ) → cond b (Some k) rest ≡ Some i → (rest ≡ Some i → k + 1 ≤ i) → k ≤ i
past_by true k i rest is more = let e : k ≡ i = cc in omega arith
past_by false k i rest is more = let e = more is in omega arith

past : {A : Type 0} (t : A → Bool) (k : ℕ) (xs : List A) (i : ℕ) → position_from t k xs ≡ Some i → k ≤ i
past t k [] i is = absurd (cc)
past t k (x ∷ xs) i is = past_by (t x) k i (position_from t (k + 1) xs) is (past t (k + 1) xs i)

-- who passes is at the place where he is found
record Passes {A : Type 0} (t : A → Bool) (k : ℕ) (xs : List A) (i : ℕ) : Type 0 where
  at : ℕ
  far : i ≡ k + at
  who : A
  there : slice_get xs at ≡ Some who
  is : t who ≡ true

passes_by : {A : Type 0} (t : A → Bool) (k : ℕ) (x : A) (xs : List A) (i : ℕ) (b : Bool) → t x ≡ b
    → cond b (Some k) (position_from t (k + 1) xs) ≡ Some i → (position_from t (k + 1) xs ≡ Some i → Passes t (k + 1) xs i) → Passes t k (x ∷ xs) i
passes_by t k x xs i true own is more =
    let e : k ≡ i = cc in
    record { at = zero; far = omega arith; who = x; there = refl; is = own }
passes_by t k x xs i false own is more =
    let p = more is in
    record { at = suc p.at; far = omega (arith, p.far); who = p.who; there = p.there; is = p.is }

passes : {A : Type 0} (t : A → Bool) (k : ℕ) (xs : List A) (i : ℕ) → position_from t k xs ≡ Some i → Passes t k xs i
passes t k [] i is = absurd (cc)
passes t k (x ∷ xs) i is = passes_by t k x xs i (t x) refl is (passes t (k + 1) xs i)

-- two that are found at one place pass with the same
both_pass : {A : Type 0} (t u : A → Bool) (xs : List A) (i : ℕ) → position_from t 0 xs ≡ Some i → position_from u 0 xs ≡ Some i → (x : A)
    × (t x ≡ true) × (u x ≡ true)
both_pass t u xs i first second =
    let p = passes t 0 xs i first in
    let q = passes u 0 xs i second in
    let same : q.at ≡ p.at = omega (arith, p.far, q.far) in
    let who : q.who ≡ p.who = let e = ap (slice_get xs) same in let f = sym q.there ∙ e ∙ p.there in cc in
    (p.who, p.is, subst (λ x. u x ≡ true) who q.is)

both_are : (a b : Bool) → a ≡ true → b ≡ true → (a && b) ≡ true
both_are true b first second = second
both_are false b first second = absurd (false≢true first)

itself : (key other : Key) → is_same key other ≡ true → is_same key key ≡ true
itself key other is =
    let both = both_true (is_same_kind key.kind other.kind) (bytes_eq key.name other.name) is in
    let kind = subst (λ k. is_same_kind key.kind k ≡ true) (sym (same_kind key.kind other.kind both.0)) both.0 in
    both_are (is_same_kind key.kind key.kind) (bytes_eq key.name key.name) kind (nat_list_eq_equiv.refl key.name)

pub entities_own : (entities : List Key) (one other : Key) (number : ℕ) → number_among entities one ≡ Some number
    → number_among entities other ≡ Some number → is_same one other ≡ true
entities_own entities one other number first second =
    let both = both_pass (is_same one) (is_same other) entities number first second in
    let whose : is_same other ≡ is_same both.0 = same_keys other both.0 both.2 in
    let mine : is_same one ≡ is_same both.0 = same_keys one both.0 both.1 in
    let self : is_same other other ≡ true = itself other both.0 both.2 in
    ap (λ f. f other) mine ∙ sym (ap (λ f. f other) whose) ∙ self

-- FREE NUMBERS

last_or_before : (xs : List ℕ) (y i x : ℕ) → slice_get (xs ++ y ∷ []) i ≡ Some x → (slice_get xs i ≡ Some x) ⊎ ((i ≡ length xs) × (y ≡ x))
last_or_before [] y zero x is = inr (refl, cc)
last_or_before [] y (suc i) x is = absurd (cc)
last_or_before (z ∷ xs) y zero x is = inl is
last_or_before (z ∷ xs) y (suc i) x is = elim (last_or_before xs y i x is) [ inl p ↦ inl p | inr p ↦ inr (ap suc p.0, p.1) ]

-- a free number has as many before it as there are free ones below
record Placed (ms : List Mentioned) (n i x : ℕ) : Type 0 where
  below : ℕ
  is : x ≡ suc below
  most : x ≤ n
  unused : is_used ms x ≡ false
  place : i ≡ length (free_up_to ms below)

placed_before : (ms : List Mentioned) (n i x : ℕ) → Placed ms n i x → Placed ms (suc n) i x
placed_before ms n i x p = record { below = p.below; is = p.is; most = omega (arith, p.most); unused = p.unused; place = p.place }

placed_last : (ms : List Mentioned) (n i x : ℕ) → is_used ms (suc n) ≡ false → i ≡ length (free_up_to ms n) → suc n ≡ x → Placed ms (suc n) i x
placed_last ms n i x unused place is =
    record { below = n; is = sym is; most = omega (arith, is); unused = subst (λ k. is_used ms k ≡ false) is unused; place = place }

placed_by : (ms : List Mentioned) (n i x : ℕ) (b : Bool) → is_used ms (suc n) ≡ b → slice_get (free_up_to ms n ++ unless_used b (suc n)) i
    ≡ Some x → (slice_get (free_up_to ms n) i ≡ Some x → Placed ms n i x) → Placed ms (suc n) i x
placed_by ms n i x true used is more = placed_before ms n i x (more (ap (λ l. slice_get l i) (sym (append-nil (free_up_to ms n))) ∙ is))
placed_by ms n i x false unused is more =
    elim (last_or_before (free_up_to ms n) (suc n) i x is) [ inl p ↦ placed_before ms n i x (more p) | inr p ↦ placed_last ms n i x unused p.0 p.1 ]

nothing_there : (i x : ℕ) → slice_get {X = ℕ} [] i ≡ Some x → ⊥
nothing_there zero x is = cc
nothing_there (suc i) x is = cc

placed : (ms : List Mentioned) (n i x : ℕ) → slice_get (free_up_to ms n) i ≡ Some x → Placed ms n i x
placed ms zero i x is = absurd (nothing_there i x is)
placed ms (suc n) i x is = placed_by ms n i x (is_used ms (suc n)) refl is (placed ms n i x)

free_place : (ms : List Mentioned) (i x : ℕ) → slice_get (free_numbers ms) i ≡ Some x → Placed ms 64 i x
unfolding free_numbers
free_place ms i x is = placed ms 64 i x is

-- the place of a name, and its number
record HasPlace (statements : List Statement) (name : List ℕ) (x : ℕ) : Type 0 where
  place : ℕ
  found : position_from (bytes_eq name) 0 (parameters_of statements) ≡ Some place
  number : slice_get (free_numbers (mentioned_in statements)) place ≡ Some x

has_place_by : (statements : List Statement) (name : List ℕ) (x : ℕ) (place : Option ℕ)
    → position_from (bytes_eq name) 0 (parameters_of statements) ≡ place
    → option_and_then (slice_get (free_numbers (mentioned_in statements))) place ≡ Some x → HasPlace statements name x
has_place_by statements name x None found is = absurd (cc)
has_place_by statements name x (Some place) found is = record { place = place; found = found; number = is }

has_place : (statements : List Statement) (name : List ℕ) (x : ℕ) → parameter_of statements name ≡ Some x → HasPlace statements name x
has_place statements name x is = has_place_by statements name x (position_from (bytes_eq name) 0 (parameters_of statements)) refl is

pub parameters_free : (statements : List Statement) (name : List ℕ) (number : ℕ) → parameter_of statements name ≡ Some number → IsFree statements number
parameters_free statements name number is =
    let h = has_place statements name number is in
    let p = free_place (mentioned_in statements) h.place number h.number in
    record { least = omega (arith, p.is); most = p.most; unused = p.unused }

pub parameters_own : (statements : List Statement) (one other : List ℕ) (number : ℕ) → parameter_of statements one ≡ Some number
    → parameter_of statements other ≡ Some number → one ≡ other
parameters_own statements one other number first second =
    let ms = mentioned_in statements in
    let h = has_place statements one number first in
    let k = has_place statements other number second in
    let p = free_place ms h.place number h.number in
    let q = free_place ms k.place number k.number in
    let below : p.below ≡ q.below = let e = sym p.is ∙ q.is in cc in
    let same : k.place ≡ h.place = q.place ∙ ap (λ n. length (free_up_to ms n)) (sym below) ∙ sym p.place in
    let both = both_pass (bytes_eq one) (bytes_eq other) (parameters_of statements) h.place h.found (k.found ∙ ap Some same) in
    (bytes_eq-Decides one both.0).0 both.1 ∙ sym ((bytes_eq-Decides other both.0).0 both.2)
