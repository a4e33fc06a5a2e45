-- Numbers with a point.
use Rattle.std.specs.Prelude.{ℕ, zero, suc, ◌+◌, ◌/◌, ◌%◌, ◌^◌, List, [], ◌∷◌, ◌++◌, codes, ℤ, pos, unsigned_abs, int_lt, Bool, if◌then◌else◌}
use Rattle.std.specs.Fmt.{decimal}

-- what a number has before its first digit
abbrev pub sign_of : Bool → List ℕ
sign_of is_negative = if is_negative then codes "-" else codes ""

-- so many last digits of a number, zeros where it has fewer
unfoldable pub last_digits : ℕ → ℕ → List ℕ
last_digits zero number = []
last_digits (suc places) number = last_digits places (number / 10) ++ (48 + number % 10) ∷ []

-- a point, and so many last digits of a number behind it
abbrev pub behind_point : ℕ → ℕ → List ℕ
behind_point places number = codes "." ++ last_digits places number

-- a number of tenths, hundredths and so on, with so many digits behind its point
unfoldable pub with_point : ℕ → ℕ → List ℕ
with_point places number = decimal (number / 10 ^ places) ++ behind_point places number

-- the same of a number that may lie below 0
unfoldable pub signed_with_point : ℕ → ℤ → List ℕ
signed_with_point places number = sign_of (int_lt number (pos 0)) ++ with_point places (unsigned_abs number)
