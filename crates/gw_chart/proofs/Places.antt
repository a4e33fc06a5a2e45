-- Steps of an axis.
use Rattle.std.proofs.Common.{◌≤◌, ◌<◌, ◌+◌, ◌*◌, ◌/◌, ◌-◌, ◌^◌, ℕ, min, arith}
use Rattle.std.specs.Int.{div_ceil}
use Rattle.std.proofs.Math.Nat.{mul-le-mul_left, mul_comm}
use Rattle.std.proofs.lemmas.Grind.{div_ceil_times}
use Rattle.gw_drawing.proofs.Places.{few_steps, some_steps, step_within, top_some}

-- five steps that reach as far as two numbers together are enough for each
pub few_below : (above below step : ℕ) → 0 < step → min (above + below) (2 ^ 64 - 1) ≤ 5 * step → below < 2 ^ 64 → div_ceil below step ≤ 5
few_below above below step some reach fits = few_steps below step some (omega (arith, reach, fits))

pub few_above : (above below step : ℕ) → 0 < step → min (above + below) (2 ^ 64 - 1) ≤ 5 * step → above < 2 ^ 64 → div_ceil above step ≤ 5
few_above above below step some reach fits = few_steps above step some (omega (arith, reach, fits))

-- one is needed above 0
pub some_above : (above step : ℕ) → 0 < above → 0 < step → 0 < div_ceil above step
some_above above step far some = some_steps above step far some

-- so few steps fit
pub reach_most : (step count : ℕ) → step ≤ 2 ^ 70 → count ≤ 10 → step * count ≤ 2 ^ 70 * 10
reach_most step count h few =
    let a = mul-le-mul_left step few in
    omega (arith, a, h)

-- and reach somewhere
pub reach_some : (step count : ℕ) → 0 < step → 0 < count → 0 < step * count
reach_some step count h k = top_some step count h k

-- a part of so few steps fits
pub part_most : (step i count : ℕ) → step ≤ 2 ^ 70 → i ≤ count → count ≤ 10 → step * i ≤ 2 ^ 70 * 10
part_most step i count h part few = reach_most step i h (omega (arith, part, few))

-- the multiples of a step from the first that isn't before an axis lie within, as many as there are up to its end
pub within_axis : (from span step i : ℕ) → 0 < step → i < (from + span) / step + 1 - div_ceil from step
    → (from ≤ step * (div_ceil from step + i)) × (step * (div_ceil from step + i) ≤ from + span)
within_axis from span step i some few =
    let times = div_ceil_times from step some in
    let more : div_ceil from step ≤ div_ceil from step + i = omega arith in
    let wide = mul-le-mul_left step more in
    let turn = mul_comm (div_ceil from step) step in
    (omega (arith, times.0, wide, turn), step_within (from + span) step (div_ceil from step + i) (omega (arith, few)))
