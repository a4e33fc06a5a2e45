-- Places and steps of a scale.
use Rattle.std.proofs.Common.{◌≡◌, ◌≤◌, ◌<◌, ◌+◌, ◌*◌, ◌/◌, ◌%◌, ◌-◌, ◌^◌, ℕ, min, arith}
use Rattle.std.specs.Int.{div_ceil}
use Rattle.std.proofs.Math.Nat.{div-le_of_le-mul, mul-le-mul_left, mul-div-le, lt_of_mul-lt-mul_right, mul-pos}
use Rattle.std.proofs.lemmas.Grind.{div_ceil_times}

-- a part of a length isn't longer
pub scaled_le : (length part whole : ℕ) → part ≤ whole → length * part / whole ≤ length
scaled_le length part whole h =
    let wide = mul-le-mul_left length h in
    div-le_of_le-mul whole (omega (arith, wide))

-- five steps that reach so far are enough
pub few_steps : (most step : ℕ) → 0 < step → most ≤ 5 * step → div_ceil most step ≤ 5
few_steps most step some reach =
    let times = div_ceil_times most step some in
    let below : div_ceil most step * step < 6 * step = omega (arith, times.1, reach) in
    let few = lt_of_mul-lt-mul_right step below in
    omega (arith, few)

-- and one is needed
pub some_steps : (most step : ℕ) → 0 < most → 0 < step → 0 < div_ceil most step
some_steps most step far some =
    let times = div_ceil_times most step some in
    lt_of_mul-lt-mul_right step (omega (arith, times.0, far))

-- steps up to the last within reach lie within
pub step_within : (span step i : ℕ) → i ≤ span / step → step * i ≤ span
step_within span step i h =
    let last = mul-le-mul_left step h in
    omega (arith, last, mul-div-le span step)

-- so few steps fit
pub top_most : (step count : ℕ) → step ≤ 2 ^ 70 → count ≤ 5 → step * count ≤ 2 ^ 70 * 5
top_most step count h few =
    let a = mul-le-mul_left step few in
    omega (arith, a, h)

-- and reach somewhere
pub top_some : (step count : ℕ) → 0 < step → 0 < count → 0 < step * count
top_some step count h k = mul-pos h k

-- two numbers of 64 bits have a product of 128
pub product_fits : (a b : ℕ) → a < 2 ^ 64 → b < 2 ^ 64 → a * b < 2 ^ 128
product_fits a b h k =
    let most : b ≤ 2 ^ 64 - 1 = omega (arith, k) in
    let wide = mul-le-mul_left a most in
    omega (arith, wide, h)
