-- What decimals spell.
use Rattle.std.proofs.Common.{◌≡◌, ◌∙◌, ◌<◌, ◌≤◌, ◌+◌, ◌-◌, ◌*◌, ◌/◌, ◌%◌, ◌^◌, ℕ, zero, suc, List, [], ◌∷◌, ◌++◌, ◌⊎◌, length, replicate, drop}
use Rattle.std.proofs.Common.{get_or, inl, inr, refl, sym, ap, arith, rules, lit<}
use Rattle.std.specs.Prelude.{Bool, true, false}
use Rattle.std.specs.List.{list_any, position_or_len, before_first, after_first}
use Rattle.std.proofs.lemmas.Bool.{or_from, or_parts, cases_lt}
use Rattle.std.proofs.Math.Nat.{pow-suc, pow-le-pow_right, one-le-pow}
use Rattle.std.proofs.lemmas.List.{append_assoc, length-append, get_or_append_left, get_or_default, get_or-append_right, get_or-replicate}
use Rattle.std.proofs.lemmas.List.{get_or_past, length_push, drop_at, drop_all, take_all}
use Rattle.std.proofs.Math.Seq.{take-append_seam}
use Rattle.std.specs.Fmt.{decimal}
use Rattle.std.specs.Str.Parse.{AllDigits}
use Rattle.gw_writing.specs.Decimals.{last_digits}
use Rattle.std.proofs.lemmas.Fmt.{decimal_is_IsNumeral_wide, decimal_by_steps_wide}
use Rattle.std.proofs.lemmas.Str.Parse.{IsNumeralModel, numerals_by_fold, tells_digits}

-- the number that digits make behind those of a number
abbrev pub onto : ℕ → List ℕ → ℕ
onto n [] = n
onto n (c ∷ cs) = onto (n * 10 + (c - 48)) cs

own : IsNumeralModel (AllDigits 10) (onto 0)
own = numerals_by_fold (AllDigits 10) tells_digits onto (search rules)

-- a decimal spells its number
pub number_of_decimal : (n : ℕ) → n < 10 ^ 64 → onto 0 (decimal n) ≡ n
number_of_decimal n h = let d = decimal_is_IsNumeral_wide n h in own.same (decimal n) d.0.1 ∙ d.1

pub onto_append : (n : ℕ) (xs : List ℕ) (c : ℕ) → onto n (xs ++ c ∷ []) ≡ onto n xs * 10 + (c - 48)
onto_append n [] c = refl
onto_append n (x ∷ xs) c = onto_append (n * 10 + (x - 48)) xs c

tenth : (k q : ℕ) → q < 10 ^ suc k → q / 10 < 10 ^ k
tenth k q h = omega (arith, pow-suc 10 k)

pub number_of_last : (k q : ℕ) → q < 10 ^ k → onto 0 (last_digits k q) ≡ q
unfolding last_digits
number_of_last zero q h = omega arith
number_of_last (suc k) q h = onto_append 0 (last_digits k (q / 10)) (48 + q % 10) ∙ omega (arith, number_of_last k (q / 10) (tenth k q h))

-- so few places stand for numbers that a `u128` holds
pub some_parts : (k : ℕ) → k ≤ 6 → (10 ^ k ≤ 10 ^ 6) × (0 < 10 ^ k)
some_parts k few = (pow-le-pow_right {n = 10} (lit< tt) few, one-le-pow k 10 (lit< tt))

pub onto_behind : (n : ℕ) (xs ys : List ℕ) → onto n (xs ++ ys) ≡ onto (onto n xs) ys
onto_behind n [] ys = refl
onto_behind n (x ∷ xs) ys = onto_behind (n * 10 + (x - 48)) xs ys

pub onto_zeros : (n j : ℕ) → onto n (replicate j 48) ≡ n * 10 ^ j
onto_zeros n zero = omega arith
onto_zeros n (suc j) = onto_zeros (n * 10 + (48 - 48)) j ∙ rw (pow-suc 10 j) (omega arith)

-- TESTS OF BYTES

-- what holds of each digit
pub each_digit : (P : ℕ → Type 0) → P 0 → P 1 → P 2 → P 3 → P 4 → P 5 → P 6 → P 7 → P 8 → P 9 → (d : ℕ) → d < 10 → P d
each_digit P a b c d e f g h i j zero few = a
each_digit P a b c d e f g h i j (suc zero) few = b
each_digit P a b c d e f g h i j (suc (suc zero)) few = c
each_digit P a b c d e f g h i j (suc (suc (suc zero))) few = d
each_digit P a b c d e f g h i j (suc (suc (suc (suc zero)))) few = e
each_digit P a b c d e f g h i j (suc (suc (suc (suc (suc zero))))) few = f
each_digit P a b c d e f g h i j (suc (suc (suc (suc (suc (suc zero)))))) few = g
each_digit P a b c d e f g h i j (suc (suc (suc (suc (suc (suc (suc zero))))))) few = h
each_digit P a b c d e f g h i j (suc (suc (suc (suc (suc (suc (suc (suc zero)))))))) few = i
each_digit P a b c d e f g h i j (suc (suc (suc (suc (suc (suc (suc (suc (suc zero))))))))) few = j
each_digit P a b c d e f g h i j (suc (suc (suc (suc (suc (suc (suc (suc (suc (suc n)))))))))) few = absurd (omega arith)

-- a test fails at each digit
abbrev pub FailsAtDigits : (ℕ → Bool) → Type 0
FailsAtDigits p = (d : ℕ) → d < 10 → p (48 + d) ≡ false

pub any_append : (p : ℕ → Bool) (xs ys : List ℕ) → list_any p xs ≡ false → list_any p ys ≡ false → list_any p (xs ++ ys) ≡ false
any_append p [] ys a b = b
any_append p (x ∷ xs) ys a b =
    or_from (p x) (list_any p (xs ++ ys)) (or_parts (p x) (list_any p xs) a).0 (any_append p xs ys (or_parts (p x) (list_any p xs) a).1 b)

pub none_in_decimal : (p : ℕ → Bool) → FailsAtDigits p → (n : ℕ) → n < 10 ^ 64 → list_any p (decimal n) ≡ false
none_in_decimal p fails n h =
    decimal_by_steps_wide (λ m ds. list_any p ds ≡ false)
    (λ m few. or_from (p (48 + m)) false (fails m few) refl)
    (λ m ds more so_far. any_append p ds ((48 + m % 10) ∷ []) so_far (or_from (p (48 + m % 10)) false (fails (m % 10) (omega arith)) refl))
    n h

pub none_in_last : (p : ℕ → Bool) → FailsAtDigits p → (k q : ℕ) → list_any p (last_digits k q) ≡ false
unfolding last_digits
none_in_last p fails zero q = refl
none_in_last p fails (suc k) q =
    any_append p (last_digits k (q / 10)) ((48 + q % 10) ∷ []) (none_in_last p fails k (q / 10))
    (or_from (p (48 + q % 10)) false (fails (q % 10) (omega arith)) refl)

-- where a test fails at all bytes before one and not at that one
pub first_at : (p : ℕ → Bool) (xs : List ℕ) (y : ℕ) (ys : List ℕ) → list_any p xs ≡ false → p y ≡ true → position_or_len p (xs ++ y ∷ ys) ≡ length xs
first_at p [] y ys none is = rw is refl
first_at p (x ∷ xs) y ys none is =
    let parts = or_parts (p x) (list_any p xs) none in
    let rest = first_at p xs y ys parts.1 is in
    rw parts.0 (omega (arith, rest))

pub first_none : (p : ℕ → Bool) (xs : List ℕ) → list_any p xs ≡ false → position_or_len p xs ≡ length xs
first_none p [] none = refl
first_none p (x ∷ xs) none =
    let parts = or_parts (p x) (list_any p xs) none in
    let rest = first_none p xs parts.1 in
    rw parts.0 (omega (arith, rest))

-- what stands before such a byte, and behind it
pub before_at : (p : ℕ → Bool) (xs : List ℕ) (y : ℕ) (ys : List ℕ) → list_any p xs ≡ false → p y ≡ true → before_first p (xs ++ y ∷ ys) ≡ xs
before_at p xs y ys none is = rw (first_at p xs y ys none is) (take-append_seam xs (y ∷ ys))

pub after_at : (p : ℕ → Bool) (xs : List ℕ) (y : ℕ) (ys : List ℕ) → list_any p xs ≡ false → p y ≡ true → after_first p (xs ++ y ∷ ys) ≡ ys
after_at p xs y ys none is =
    let there = first_at p xs y ys none is in
    ap (λ ls. drop (position_or_len p (xs ++ y ∷ ys) + 1) ls) (sym (append_assoc xs (y ∷ []) ys))
    ∙ drop_at (xs ++ y ∷ []) ys (position_or_len p (xs ++ y ∷ ys) + 1) (omega (arith, there, length_push xs y))

pub before_none : (p : ℕ → Bool) (xs : List ℕ) → list_any p xs ≡ false → before_first p xs ≡ xs
before_none p xs none = take_all (position_or_len p xs) xs (omega (arith, first_none p xs none))

pub after_none : (p : ℕ → Bool) (xs : List ℕ) → list_any p xs ≡ false → after_first p xs ≡ []
after_none p xs none = drop_all (position_or_len p xs + 1) xs (omega (arith, first_none p xs none))

-- digits with zeros behind them
pub padded : (ds : List ℕ) (i : ℕ) → i < 6 → (i < length (ds ++ replicate 6 48)) × (get_or (ds ++ replicate 6 48) i 0 ≡ get_or ds i 48)
padded ds i h = (omega (arith, length-append ds (replicate 6 48)), by_place (cases_lt i (length ds)))
  where
    by_place : (i < length ds) ⊎ (length ds ≤ i) → get_or (ds ++ replicate 6 48) i 0 ≡ get_or ds i 48
    by_place (inl before) = get_or_append_left ds (replicate 6 48) 0 i before ∙ get_or_default ds i 0 48 before
    by_place (inr behind) =
        get_or-append_right ds (replicate 6 48) (length ds) i 0 refl behind
        ∙ get_or-replicate 6 (i - length ds) 48 0 (omega arith) ∙ sym (get_or_past ds i 48 behind)
