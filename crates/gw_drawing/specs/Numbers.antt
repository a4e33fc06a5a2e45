-- Places on a picture, in tenths of pixels, and round numbers.
use Rattle.std.specs.Prelude.{ℕ, zero, suc, ◌+◌, ◌*◌, ◌/◌, ◌^◌, max, List, [], ◌∷◌, map, Option, Some, None, nat_le, if◌then◌else◌}
use Rattle.std.specs.Int.{div_ceil}
use Rattle.std.specs.List.{range_with_len}
use Rattle.std.specs.Option.{unwrap_or}
use Rattle.gw_drawing.specs.Steps.{Steps}

-- what a part of a whole is of a length
abbrev pub part_of_length : ℕ → ℕ → ℕ → ℕ
part_of_length length part whole = length * part / whole

-- the greatest of the first n of these, and at least 1
unfoldable pub greatest : (ℕ → ℕ) → ℕ → ℕ
greatest f zero = 1
greatest f (suc n) = max (greatest f n) (f n)

-- the sum of the first n of these
unfoldable pub total : (ℕ → ℕ) → ℕ → ℕ
total f zero = 0
total f (suc n) = total f n + f n

-- the first that isn't less, of 1, 2 and 5 times a power, if one of them isn't
abbrev pub round_by : ℕ → ℕ → Option ℕ
round_by power least =
    if nat_le least power then Some power
    else if nat_le least (2 * power) then Some (2 * power)
    else if nat_le least (5 * power) then Some (5 * power)
    else None

-- the first round number that isn't less: 1, 2 and 5 times each of these powers are round
unfoldable pub round_in : List ℕ → ℕ → ℕ
round_in [] least = least
round_in (power ∷ powers) least = unwrap_or (round_by power least) (round_in powers least)

-- the powers of 10 below 2 ^ 63, from 1 on
abbrev pub powers : List ℕ
powers = map (λ n. 10 ^ n) (range_with_len 0 19)

-- the first round number of which five reach so far
abbrev pub round_step : ℕ → ℕ
round_step most = round_in powers (div_ceil most 5)

-- the scale of an upright axis that reaches so far: as many round steps as are needed
abbrev pub scale_to : ℕ → Steps
scale_to most = record { step = round_step most; count = div_ceil most (round_step most) }

-- where a scale ends
abbrev pub top_of : Steps → ℕ
top_of scale = scale.step * scale.count
