-- The numbers at an upright axis.
use Rattle.std.specs.Prelude.{ℕ, ◌+◌, ◌-◌, ◌*◌, ◌^◌, ◌≤◌, ◌<◌, min, max, zero, suc, ℤ, pos, ◌-ℤ◌, int_lt, unsigned_abs, if◌then◌else◌}
use Rattle.std.specs.Int.{div_ceil}
use Rattle.gw_drawing.specs.Numbers.{round_step}

-- so many numbers above the lowest, at equal steps, of which so many lie below 0
pub record Levels : Type 0 where
  pub step : ℕ
  pub below : ℕ
  pub count : ℕ

-- there are one to ten steps, and they are no wider than numbers of 64 bits ask for
pub record AreFew (l : Levels) : Type 0 where
  pub step_least : 0 < l.step
  pub step_most : l.step ≤ 2 ^ 70
  pub count_least : 0 < l.count
  pub count_most : l.count ≤ 10
  pub below_most : l.below ≤ l.count

-- how far they reach in all
abbrev pub reach_of : Levels → ℕ
reach_of l = l.step * l.count

-- the number of a step, from the lowest on
abbrev pub number_at : Levels → ℕ → ℤ
number_at l i = pos (l.step * i) -ℤ pos (l.step * l.below)

-- those at a step, which reach so far above 0 and so far below: as many as are needed
abbrev pub levels_by : ℕ → ℕ → ℕ → Levels
levels_by step above below = record { step = step; below = div_ceil below step; count = div_ceil below step + div_ceil above step }

-- the same at a round step, of which five reach as far
abbrev pub levels_to : ℕ → ℕ → Levels
levels_to above below = levels_by (round_step (min (above + below) (2 ^ 64 - 1))) above below

-- how far a number lies above 0, and how far below
abbrev pub height_above : ℤ → ℕ
height_above number = if int_lt number (pos 0) then 0 else unsigned_abs number

abbrev pub depth_below : ℤ → ℕ
depth_below number = if int_lt number (pos 0) then unsigned_abs number else 0

-- the greatest of the first n of these, and at least 0
unfoldable pub deepest : (ℕ → ℕ) → ℕ → ℕ
deepest f zero = 0
deepest f (suc n) = max (deepest f n) (f n)
