-- Decimal numerals.
use Rattle.std.specs.Prelude.{ℕ, nat_lt, List, length, Option, Some, None, Bool, ◌&&◌, if◌then◌else◌}
use Rattle.std.specs.List.{list_all}
use Rattle.std.specs.Char.{is_ascii_digit}
use Rattle.std.specs.Str.Parse.{digits_value}

-- decimal digits alone, one or more
abbrev pub is_number : List ℕ → Bool
is_number word = nat_lt 0 (length word) && list_all is_ascii_digit word

-- the number that a word of decimal digits alone spells, if it is below a limit
abbrev pub number_below : ℕ → List ℕ → Option ℕ
number_below limit word = if is_number word && nat_lt (digits_value 10 word) limit then Some (digits_value 10 word) else None
