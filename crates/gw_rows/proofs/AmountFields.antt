-- What the field of an amount tells.
use Rattle.std.proofs.Common.{◌≡◌, ◌∙◌, ◌<◌, ◌≤◌, ◌+◌, ◌-◌, ◌*◌, ◌/◌, ◌%◌, ◌^◌, ℕ, suc, List, [], ◌∷◌, ◌++◌, length, replicate, take, drop, get_or}
use Rattle.std.proofs.Common.{refl, sym, ap, arith, lit≤, Bool, true, false, ◌==◌, cond, inl, inr}
use Rattle.std.specs.Prelude.{ℤ, pos, negsuc, neg_ℤ, Option, Some, None, unsigned_abs, FitsSigned, if◌then◌else◌}
use Rattle.std.specs.List.{list_any, before_first, after_first}
use Rattle.std.specs.Prelude.{IfSome}
use Rattle.std.specs.Fmt.{decimal}
use Rattle.std.proofs.lemmas.Bool.{cases_Bool, cases_eq, ne_eqb, eqb-true, or_parts, le-ltb, true≢false}
use Rattle.std.proofs.lemmas.Fmt.{decimal_is_IsNumeral_wide}
use Rattle.std.proofs.lemmas.List.{append-nil, take-replicate, nil_from_length}
use Rattle.std.specs.Int.{w128}
use Rattle.std.proofs.Math.Seq.{take-append-add}
use Rattle.gw_writing.specs.Decimals.{last_digits}
use Rattle.gw_writing.proofs.Digits.{length_last}
use Rattle.gw_rows.specs.Reading.{IsAmount}
use Rattle.gw_rows.specs.Amounts.{places_for, fraction, size_text, amount, amount_field}
use Rattle.gw_rows.proofs.Decimals.{onto, onto_behind, onto_zeros, number_of_last, number_of_decimal}
use Rattle.gw_rows.proofs.Decimals.{FailsAtDigits, each_digit, none_in_decimal, before_at, after_at, before_none, after_none}

-- THE DIGITS BEHIND THE POINT

-- the number of millionths that the first six digits are
abbrev pub six : List ℕ → ℕ
six digits = onto 0 (take 6 (digits ++ replicate 6 48))

pub six_of_last : (k q : ℕ) → k ≤ 6 → q < 10 ^ k → six (last_digits k q) ≡ q * 10 ^ (6 - k)
six_of_last k q few h =
    let ds = last_digits k q in
    let n = length_last k q in
    let all : 6 ≡ length ds + (6 - k) = omega (arith, n) in
    let front : take 6 (ds ++ replicate 6 48) ≡ ds ++ replicate (6 - k) 48 =
    ap (λ j. take j (ds ++ replicate 6 48)) all ∙ take-append-add ds (replicate 6 48) (6 - k)
    ∙ ap (λ xs. ds ++ xs) (take-replicate (6 - k) 6 48 (omega arith)) in
    ap (onto 0) front ∙ onto_behind 0 ds (replicate (6 - k) 48) ∙ onto_zeros (onto 0 ds) (6 - k) ∙ ap (λ n. n * 10 ^ (6 - k)) (number_of_last k q h)

-- the digits of millionths below 1: the last of a number, as many as tell them
pub record IsFraction (m : ℕ) (text : List ℕ) : Type 0 where
  pub k : ℕ
  pub q : ℕ
  pub few : k ≤ 6
  pub below : q < 10 ^ k
  pub same : q * 10 ^ (6 - k) ≡ m
  pub text_is : text ≡ 46 ∷ last_digits k q

with_places : (m k : ℕ) → 0 < m → places_for m ≡ k → fraction m ≡ 46 ∷ last_digits k (m / 10 ^ (6 - k))
unfolding fraction
with_places m k some is = rw (ne_eqb m 0 (λ none. omega (arith, none))) (ap (λ p. 46 ∷ last_digits p (m / 10 ^ (6 - p))) is)

by_places : (m k q : ℕ) → 0 < m → k ≤ 6 → q < 10 ^ k → q * 10 ^ (6 - k) ≡ m → m / 10 ^ (6 - k) ≡ q → places_for m ≡ k → IsFraction m (fraction m)
by_places m k q some few below same is places = record {
  k = k;
  q = q;
  few = few;
  below = below;
  same = same;
  text_is = with_places m k some places ∙ ap (λ n. 46 ∷ last_digits k n) is;
}

pub fraction_is : (m : ℕ) → 0 < m → m < 1000000 → IsFraction m (fraction m)
fraction_is m some below = elim (cases_Bool (m % 100000 == 0)) [
  | inl a ↦ by_places m 1 (m / 100000) some (lit≤ tt) (omega arith) (omega (arith, eqb-true _ _ a)) refl (rw a refl)
  | inr a ↦ elim (cases_Bool (m % 10000 == 0)) [
    | inl b ↦ by_places m 2 (m / 10000) some (lit≤ tt) (omega arith) (omega (arith, eqb-true _ _ b)) refl (rw (a, b) refl)
    | inr b ↦ elim (cases_Bool (m % 1000 == 0)) [
      | inl c ↦ by_places m 3 (m / 1000) some (lit≤ tt) (omega arith) (omega (arith, eqb-true _ _ c)) refl (rw (a, b, c) refl)
      | inr c ↦ elim (cases_Bool (m % 100 == 0)) [
        | inl d ↦ by_places m 4 (m / 100) some (lit≤ tt) (omega arith) (omega (arith, eqb-true _ _ d)) refl (rw (a, b, c, d) refl)
        | inr d ↦ elim (cases_Bool (m % 10 == 0)) [
          | inl e ↦ by_places m 5 (m / 10) some (lit≤ tt) (omega arith) (omega (arith, eqb-true _ _ e)) refl (rw (a, b, c, d, e) refl)
          | inr e ↦ by_places m 6 m some (lit≤ tt) (omega arith) (omega arith) (omega arith) (rw (a, b, c, d, e) refl)
        ]
      ]
    ]
  ]
]

-- THE FIELD

abbrev pub is_point : ℕ → Bool
is_point b = b == 46

-- how many millionths a decimal without a sign is
abbrev pub size_of : List ℕ → ℕ
size_of digits = onto 0 (before_first is_point digits) * 1000000 + six (after_first is_point digits)

no_point : FailsAtDigits is_point
no_point = each_digit (λ d. is_point (48 + d) ≡ false) refl refl refl refl refl refl refl refl refl refl

pub fraction_none : fraction 0 ≡ []
unfolding fraction
fraction_none = refl

-- what stands before the point of a size, and behind it
pub before_point : (n : ℕ) → n ≤ 2 ^ 128 → before_first is_point (size_text n) ≡ decimal (n / 1000000)
before_point n h =
    let ds = decimal (n / 1000000) in
    let none = none_in_decimal is_point no_point (n / 1000000) (omega arith) in
    elim (cases_eq (n % 1000000) 0) [
      | inl zero_is ↦
          ap (λ m. before_first is_point (ds ++ m)) (ap fraction zero_is ∙ fraction_none) ∙ ap (before_first is_point) (append-nil ds)
          ∙ before_none is_point ds none
      | inr some ↦
          let is = fraction_is (n % 1000000) (omega arith) (omega arith) in
          ap (λ m. before_first is_point (ds ++ m)) is.text_is ∙ before_at is_point ds 46 (last_digits is.k is.q) none refl
    ]

pub behind_point : (n : ℕ) → n ≤ 2 ^ 128 → after_first is_point (size_text n) ≡ drop 1 (fraction (n % 1000000))
behind_point n h =
    let ds = decimal (n / 1000000) in
    let none = none_in_decimal is_point no_point (n / 1000000) (omega arith) in
    elim (cases_eq (n % 1000000) 0) [
      | inl zero_is ↦
          let empty = ap fraction zero_is ∙ fraction_none in
          ap (λ m. after_first is_point (ds ++ m)) empty ∙ ap (after_first is_point) (append-nil ds) ∙ after_none is_point ds none ∙ ap (drop 1) (sym empty)
      | inr some ↦
          let is = fraction_is (n % 1000000) (omega arith) (omega arith) in
          ap (λ m. after_first is_point (ds ++ m)) is.text_is ∙ after_at is_point ds 46 (last_digits is.k is.q) none refl ∙ ap (drop 1) (sym is.text_is)
    ]

-- six digits that stand behind the point of millionths
pub six_of_fraction : (m : ℕ) → m < 1000000 → six (drop 1 (fraction m)) ≡ m
six_of_fraction m h = elim (cases_eq m 0) [
  | inl none ↦ ap (λ n. six (drop 1 (fraction n))) none ∙ ap (λ ls. six (drop 1 ls)) fraction_none ∙ sym none
  | inr some ↦
      let is = fraction_is m (omega arith) h in
      ap (λ ls. six (drop 1 ls)) is.text_is ∙ six_of_last is.k is.q is.few is.below ∙ is.same
]

pub size_of_digits : (n : ℕ) → n ≤ 2 ^ 128 → size_of (size_text n) ≡ n
size_of_digits n h =
    ap (λ ds. onto 0 ds * 1000000 + six (after_first is_point (size_text n))) (before_point n h)
    ∙ ap (λ ds. onto 0 (decimal (n / 1000000)) * 1000000 + six ds) (behind_point n h)
    ∙ ap (λ w. w * 1000000 + six (drop 1 (fraction (n % 1000000)))) (number_of_decimal (n / 1000000) (omega arith))
    ∙ ap (λ m. n / 1000000 * 1000000 + m) (six_of_fraction (n % 1000000) (omega arith)) ∙ omega arith

-- the amount that a field tells
abbrev pub value_of : List ℕ → Option ℤ
value_of [] = None
value_of (c ∷ cs) = if c == 45 then Some (neg_ℤ (pos (size_of cs))) else Some (pos (size_of (c ∷ cs)))

abbrev pub is_minus : ℕ → Bool
is_minus b = b == 45

no_minus : FailsAtDigits is_minus
no_minus = each_digit (λ d. is_minus (48 + d) ≡ false) refl refl refl refl refl refl refl refl refl refl

value_of_front : (ds rest : List ℕ) → 0 < length ds → list_any is_minus ds ≡ false → value_of (ds ++ rest) ≡ Some (pos (size_of (ds ++ rest)))
value_of_front [] rest some none = absurd (omega arith)
value_of_front (c ∷ cs) rest some none = rw (or_parts (c == 45) (list_any is_minus cs) none).0 refl

pub amount_above : (n : ℕ) → amount (pos n) ≡ size_text n
unfolding amount
amount_above n = ap (λ b. cond b (45 ∷ []) [] ++ size_text n) (le-ltb n 0 (omega arith))

pub amount_below : (n : ℕ) → amount (negsuc n) ≡ 45 ∷ size_text (suc n)
unfolding amount
amount_below n = refl

pub value_of_amount : (value : Option ℤ) → IfSome value (λ z. unsigned_abs z ≤ 2 ^ 128) → value_of (amount_field value) ≡ value
value_of_amount None small = refl
value_of_amount (Some (pos n)) small =
    let w = n / 1000000 in
    let ten : w < 10 ^ 64 = omega arith in
    ap value_of (amount_above n)
    ∙ value_of_front (decimal w) (fraction (n % 1000000)) (decimal_is_IsNumeral_wide w ten).0.0 (none_in_decimal is_minus no_minus w ten)
    ∙ ap (λ m. Some (pos m)) (size_of_digits n small)
value_of_amount (Some (negsuc n)) small = ap value_of (amount_below n) ∙ ap (λ m. Some (neg_ℤ (pos m))) (size_of_digits (suc n) small)

-- an amount of 128 bits is small enough
pub short_amount : (value : Option ℤ) → IsAmount value → IfSome value (λ z. unsigned_abs z ≤ 2 ^ 128)
short_amount None h = tt
short_amount (Some (pos n)) h = let fits = h.sfits in omega arith
short_amount (Some (negsuc n)) h = let fits = h.sfits in omega arith

-- fields of amounts are one-to-one
pub amount_field_injective : (a b : Option ℤ) → IsAmount a → IsAmount b → amount_field a ≡ amount_field b → a ≡ b
amount_field_injective a b h k is = sym (value_of_amount a (short_amount a h)) ∙ ap value_of is ∙ value_of_amount b (short_amount b k)

-- the text of a size begins with no sign
no_sign : (n : ℕ) → n ≤ 2 ^ 128 → (get_or (size_text n) 0 0 == 45) ≡ false
no_sign n h =
    let w = n / 1000000 in
    let ten : w < 10 ^ 64 = omega arith in
    by_digits (decimal w) (fraction (n % 1000000)) (decimal_is_IsNumeral_wide w ten).0.0 (none_in_decimal is_minus no_minus w ten)
  where
    by_digits : (ds others : List ℕ) → 0 < length ds → list_any is_minus ds ≡ false → (get_or (ds ++ others) 0 0 == 45) ≡ false
    by_digits [] others some none = absurd (omega arith)
    by_digits (d ∷ ds) others some none = (or_parts (d == 45) (list_any is_minus ds) none).0

-- what a size says that is read of a field
abbrev pub SaysSize : List ℕ → ℕ → Type 0
SaysSize digits size = (n : ℕ) → n < 2 ^ 128 → digits ≡ size_text n → size ≡ n

-- a field with a sign
pub with_sign : (field : List ℕ) (size : ℕ) (r : ℤ) → (get_or field 0 0 == 45) ≡ true → SaysSize (drop 1 field) size
    → ((n : ℕ) → n < 2 ^ 127 → size ≡ n + 1 → r ≡ negsuc n) → (z : ℤ) → FitsSigned w128 z → field ≡ amount z → r ≡ z
with_sign field size r sign says reads (pos n) fits is =
    let small = fits.sfits in
    let same = is ∙ amount_above n in
    absurd (true≢false (sym sign ∙ ap (λ ls. get_or ls 0 0 == 45) same ∙ no_sign n (omega arith)))
with_sign field size r sign says reads (negsuc n) fits is =
    let small = fits.sfits in
    let same = is ∙ amount_below n in
    let size_is = says (suc n) (omega arith) (ap (drop 1) same) in
    reads n (omega arith) (omega arith)

-- and one without
pub without_sign : (field : List ℕ) (size : ℕ) (r : ℤ) → (get_or field 0 0 == 45) ≡ false → SaysSize field size
    → ((n : ℕ) → n < 2 ^ 127 → size ≡ n → r ≡ pos n) → (z : ℤ) → FitsSigned w128 z → field ≡ amount z → r ≡ z
without_sign field size r none says reads (pos n) fits is =
    let small = fits.sfits in reads n (omega arith) (says n (omega arith) (is ∙ amount_above n))
without_sign field size r none says reads (negsuc n) fits is =
    absurd (true≢false (sym (ap (λ ls. get_or ls 0 0 == 45) (is ∙ amount_below n)) ∙ none))

-- the field of an amount isn't empty
pub none_in_empty : (field : List ℕ) (value : Option ℤ) → length field ≡ 0 → IsAmount value → field ≡ amount_field value → None ≡ value
none_in_empty field value empty h is =
    ap value_of (sym (nil_from_length field empty)) ∙ ap value_of is ∙ value_of_amount value (short_amount value h)
