-- What a word of digits alone parses to.
use Rattle.std.proofs.Common.{◌≡◌, ◌<◌, ◌^◌, ℕ, List, length, nat_lt, Bool, true, false, ◌&&◌, Some, None, Result, Ok, Err, if◌then◌else◌, refl, ap}
use Rattle.std.proofs.Common.{arith, rules}
use Rattle.std.proofs.lemmas.Bool.Decides.{nat_tests}
use Rattle.std.proofs.lemmas.Str.Parse.{IsNumeralModel, numerals_by_value, parse_digits}
use Rattle.std.specs.Char.{is_ascii_digit}
use Rattle.std.specs.List.{list_all}
use Rattle.std.specs.Result.{OkIff, result_ok}
use Rattle.std.specs.Str.Parse.{ParsesUnsigned, digits_value}
use Rattle.gw_num.specs.Numerals.{is_number, number_below}

digits : IsNumeralModel (λ ds. list_all is_ascii_digit ds ≡ true) (digits_value 10)
digits = numerals_by_value _ (search rules)

-- a number is kept where it is below the limit
kept : {E : Type 0} (long value limit : ℕ) (r : Result ℕ E) → OkIff r ((0 < long) × (value < limit)) value → 0 < long → result_ok r
    ≡ (if nat_lt value limit then Some value else None)
kept long value limit (Ok n) h some = let below : nat_lt value limit ≡ true = grind (arith, nat_tests, h.0.1) in rw below (ap (λ (m : ℕ). Some m) h.1)
kept long value limit (Err e) h some = let above : nat_lt value limit ≡ false =
    grind (arith, nat_tests, λ (below : value < limit). h (some, below)) in rw above refl

is_digits : (nonempty all : Bool) → (nonempty && all) ≡ true → (nonempty ≡ true) × (all ≡ true)
is_digits true true h = (refl, refl)
is_digits true false h = (refl, h)
is_digits false all h = cc

pub parsed : {E : Type 0} (k : ℕ) (word : List ℕ) (r : Result ℕ E) → ParsesUnsigned k 10 word r → is_number word ≡ true → result_ok r
    ≡ number_below (2 ^ k) word
parsed k word r h all =
    let parts = is_digits (nat_lt 0 (length word)) (list_all is_ascii_digit word) all in
    let some : 0 < length word = grind (arith, nat_tests, parts.0) in
    rw all (kept (length word) (digits_value 10 word) (2 ^ k) r (parse_digits digits k word r h parts.1) some)
