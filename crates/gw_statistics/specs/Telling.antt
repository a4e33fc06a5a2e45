-- A value, and a half-width beside its mean, as they are told in thousandths.
use Rattle.std.specs.Prelude.{ℕ, suc, ◌+◌, ◌-◌, ◌/◌, ◌%◌, nat_lt, List, ℤ, pos, negsuc, neg_ℤ, unsigned_abs, if◌then◌else◌}
use Rattle.std.specs.Int.{div_ceil}
use Rattle.gw_writing.specs.Decimals.{signed_with_point}

-- how many thousandths a size of millionths is, to the nearest
abbrev pub nearest_thousandths : ℕ → ℕ
nearest_thousandths size = (size + 500) / 1000

-- the same of any millionths; what lies in the middle goes away from 0
abbrev pub thousandths_of : ℤ → ℤ
thousandths_of (pos n) = pos (nearest_thousandths n)
thousandths_of (negsuc n) = neg_ℤ (pos (nearest_thousandths (suc n)))

-- a value of millionths, told in thousandths
unfoldable pub told : ℤ → List ℕ
told value = signed_with_point 3 (thousandths_of value)

-- how far millionths lie from the thousandths that are told of them
abbrev pub distance : ℤ → ℕ
distance z =
    let rest = unsigned_abs z % 1000 in if nat_lt rest 500 then rest else 1000 - rest

-- a half-width of millionths, in thousandths: with what rounding the mean adds, and rounded up
abbrev pub told_half_width : ℤ → ℕ → ℕ
told_half_width mean half_width = div_ceil (half_width + distance mean) 1000
