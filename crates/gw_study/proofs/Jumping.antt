-- Seeds along the generator.
use Rattle.std.proofs.Common.{◌≡◌, ℕ, zero, suc, ◌+◌, add-one, refl, arith}
use Rattle.gw_study.specs.Seeds.{IsSeed, after_jump, seed_at}

-- 789557446 and 2147483647 have no common factor
pub stays_seed : (x : ℕ) → IsSeed x → IsSeed (after_jump x)
stays_seed x h = (omega arith, omega arith)

-- the first seed, and the next
pub first_seed : seed_at 0 ≡ 1
unfolding seed_at
first_seed = refl

pub seed_more : (place : ℕ) → seed_at (place + 1) ≡ after_jump (seed_at place)
unfolding seed_at
seed_more place = rw (add-one place) refl

-- each is one
pub is_seed : (place : ℕ) → IsSeed (seed_at place)
unfolding seed_at
is_seed zero = (omega arith, omega arith)
is_seed (suc place) = stays_seed (seed_at place) (is_seed place)
