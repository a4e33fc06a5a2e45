-- The words of a line, and the numbers that they spell.
use Rattle.std.proofs.Common.{◌≡◌, ℕ, zero, suc, List, [], ◌∷◌, Bool, true, false, Some, None, length, nat_lt, if◌then◌else◌, ◌&&◌, arith, refl}
use Rattle.std.specs.Char.{is_ascii_digit}
use Rattle.std.specs.List.{list_all}
use Rattle.std.specs.Str.{IsAscii, IsUtf8}
use Rattle.std.specs.Str.Parse.{digits_value}
use Rattle.std.proofs.lemmas.Bool.Decides.{nat_tests}
use Rattle.std.proofs.lemmas.Str.{IsUtf8-from_ascii}
use Rattle.gw_num.specs.Numerals.{number_below}

both : (a b : Bool) → (a && b) ≡ true → (a ≡ true) × (b ≡ true)
both true true h = (refl, refl)
both true false h = (refl, h)
both false b h = cc

-- digits are ASCII
digits_ascii : (word : List ℕ) → list_all is_ascii_digit word ≡ true → IsAscii word
digits_ascii [] h i = omega arith
digits_ascii (c ∷ cs) h zero = let first = (both (is_ascii_digit c) (list_all is_ascii_digit cs) h).0 in grind (arith, nat_tests)
digits_ascii (c ∷ cs) h (suc i) = digits_ascii cs (both (is_ascii_digit c) (list_all is_ascii_digit cs) h).1 i

none_kept : (some all below : Bool) (value : ℕ) → all ≡ false → None ≡ (if (some && all) && below then Some value else None)
none_kept true true below value h = cc
none_kept true false below value h = refl
none_kept false all below value h = refl

no_digits : (limit : ℕ) (word : List ℕ) (all : Bool) → list_all is_ascii_digit word ≡ all → (IsUtf8 word → ⊥) → None ≡ number_below limit word
no_digits limit word true h bad = absurd (bad (IsUtf8-from_ascii word (digits_ascii word h)))
no_digits limit word false h bad =
    none_kept (nat_lt 0 (length word)) (list_all is_ascii_digit word) (nat_lt (digits_value 10 word) limit) (digits_value 10 word) h

-- what isn't UTF-8 spells no number
pub no_number : (limit : ℕ) (word : List ℕ) → (IsUtf8 word → ⊥) → None ≡ number_below limit word
no_number limit word bad = no_digits limit word (list_all is_ascii_digit word) refl bad
