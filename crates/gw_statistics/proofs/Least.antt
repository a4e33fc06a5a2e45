-- The least number that covers.
use Rattle.std.proofs.Common.{◌≡◌, ◌∙◌, ◌≤◌, ◌<◌, ℕ, suc, ◌+◌, ◌*◌, ◌/◌, ◌%◌, ◌^◌, min, arith, ap}
use Rattle.std.proofs.Math.Nat.{mul-le-mul, mul-le-mul_left, mul-le-mul_right, div-mul-le_self, div-le_self}
use Rattle.std.proofs.lemmas.Grind.{div_ceil_times}
use Rattle.gw_statistics.specs.Summaries.{IsRoot, IsHalfWidth, scale}

-- a number is its whole quotient times the divisor and the rest
divided : (d b : ℕ) → 0 < b → d ≡ d / b * b + d % b
divided d b some = omega arith

-- a multiple of it likewise
multiplied : (s d b : ℕ) → 0 < b → s * d ≡ s * (d / b) * b + s * (d % b)
multiplied s d b some = let is = divided d b some in cc_times s d (d / b) (d % b) b is
  where
    cc_times : (s d q r b : ℕ) → d ≡ q * b + r → s * d ≡ s * q * b + s * r
    cc_times s d q r b is = ap (λ x. s * x) is ∙ omega arith

-- what the root of the sum covers, the product covers
covered : (s d b h : ℕ) → 0 < b → (s * (d / b) + (s * (d % b) / b + min 1 (s * (d % b) % b))) ≤ h * h → s * d ≤ h * h * b
covered s d b h some root =
    let is = multiplied s d b some in
    let times = div_ceil_times (s * (d % b)) b some in
    let more = mul-le-mul_right b root in
    omega arith

-- and what it doesn't, neither does a number below
uncovered : (s d b k : ℕ) → 0 < b → k * k < (s * (d / b) + (s * (d % b) / b + min 1 (s * (d % b) % b))) → k * k * b < s * d
uncovered s d b k some below =
    let is = multiplied s d b some in
    let times = div_ceil_times (s * (d % b)) b some in
    let more : (suc (k * k)) * b ≤ (s * (d / b) + (s * (d % b) / b + min 1 (s * (d % b) % b))) * b = mul-le-mul_right b below in
    omega (arith, more)

-- the root of that sum is the half-width
pub is_half_width : (t n d h : ℕ) → 0 < scale n
    → IsRoot (t * t * (d / scale n) + (t * t * (d % scale n) / scale n + min 1 (t * t * (d % scale n) % scale n))) h → IsHalfWidth t n d h
is_half_width t n d h some root =
    record { covers = covered (t * t) d (scale n) h some root.covers; least = λ k below. uncovered (t * t) d (scale n) k some (root.least k below) }

-- how great the two parts of that sum are at most
pub whole_part : (s d b : ℕ) → s ≤ 12707 * 12707 → d ≤ 2 ^ 118 → 1000000 ≤ b → s * (d / b) ≤ 12707 * 12707 * (2 ^ 118 / 1000000)
whole_part s d b square most some =
    let below : d / b ≤ 2 ^ 118 / 1000000 = quotient_below d b most some in
    mul-le-mul square below
  where
    quotient_below : (d b : ℕ) → d ≤ 2 ^ 118 → 1000000 ≤ b → d / b ≤ 2 ^ 118 / 1000000
    quotient_below d b most some =
        let times : d / b * 1000000 ≤ d / b * b = mul-le-mul_left (d / b) some in
        let whole = div-mul-le_self d b in
        omega (arith, times, whole)

pub rest_part : (s r b : ℕ) → s ≤ 12707 * 12707 → r < b → b ≤ 2 ^ 47 → s * r / b + min 1 (s * r % b) ≤ 12707 * 12707 * 2 ^ 47 + 1
rest_part s r b square rest most =
    let less = div-le_self (s * r) b in
    let within : r ≤ 2 ^ 47 = omega arith in
    let product : s * r ≤ 12707 * 12707 * 2 ^ 47 = mul-le-mul square within in
    omega (arith, less, product)
