-- How far steps reach.
use Rattle.std.proofs.Common.{◌≡◌, ◌≤◌, ◌<◌, ◌*◌, ◌/◌, ◌^◌, ℕ, arith}
use Rattle.std.proofs.Math.Nat.{mul-le-mul_left, mul-pos, div-le_of_le-mul}

-- ten steps at most reach so far
pub reach_most : (step steps : ℕ) → step ≤ 2 ^ 70 → steps ≤ 10 → step * steps ≤ 2 ^ 70 * 10
reach_most step steps h few =
    let a = mul-le-mul_left step few in
    omega (arith, a, h)

-- and somewhere
pub reach_some : (step steps : ℕ) → 0 < step → 0 < steps → 0 < step * steps
reach_some step steps h k = mul-pos h k

-- a part of a length isn't longer
pub part_le : (part whole : ℕ) → part ≤ whole → 2800 * part / whole ≤ 2800
part_le part whole h =
    let wide = mul-le-mul_left 2800 h in
    div-le_of_le-mul whole (omega (arith, wide))
