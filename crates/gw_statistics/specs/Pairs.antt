-- Differences of values by pairs.
use Rattle.std.specs.Prelude.{◌^◌, nat_le, List, [], ◌∷◌, ℤ, ◌-ℤ◌, unsigned_abs, ◌&&◌, if◌then◌else◌, Option, Some, None}

-- what a value is more than another, if neither is too great
abbrev pub between : ℤ → ℤ → Option ℤ
between first second =
    if nat_le (unsigned_abs first) (2 ^ 100) && nat_le (unsigned_abs second) (2 ^ 100) then Some (second -ℤ first) else None

-- the same, if both are there
abbrev pub difference : Option ℤ → Option ℤ → Option ℤ
difference None second = None
difference (Some first) None = None
difference (Some first) (Some second) = between first second

-- a value before others, if it is there
abbrev pub with_value : Option ℤ → List ℤ → List ℤ
with_value None values = values
with_value (Some value) values = value ∷ values

-- the differences of two columns of values, pair by pair
unfoldable pub differences : List (Option ℤ) → List (Option ℤ) → List ℤ
differences [] second = []
differences (value ∷ first) [] = []
differences (value ∷ first) (other ∷ second) = with_value (difference value other) (differences first second)
