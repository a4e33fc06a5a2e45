-- Quotients of whole numbers, rounded: to the nearest whole number, where what lies in the middle goes
-- away from 0, or up.
use Rattle.std.specs.Prelude.{◌≤◌, ℕ, suc, ◌+◌, ◌*◌, ◌/◌, ◌%◌, min, ℤ, pos, negsuc, neg_ℤ}

-- of a number that isn't below 0
abbrev pub nearest : ℕ → ℕ → ℕ
nearest a n = (2 * a + n) / (2 * n)

-- of any number
abbrev pub nearest_of : ℤ → ℕ → ℤ
nearest_of (pos a) n = pos (nearest a n)
nearest_of (negsuc a) n = neg_ℤ (pos (nearest (suc a) n))

-- of a number that isn't below 0, where what lies between goes up
abbrev pub quotient_up : ℕ → ℕ → ℕ
quotient_up a n = a / n + min 1 (a % n)

-- q times n lies at most half of n away from a
abbrev pub IsNearest : ℕ → ℕ → ℕ → Type 0
IsNearest a n q = (2 * (q * n) ≤ 2 * a + n) × (2 * a ≤ 2 * (q * n) + n)
