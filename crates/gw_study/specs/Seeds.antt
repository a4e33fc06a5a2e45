-- The seeds of a study: places along the one generator, at equal distances.
use Rattle.std.specs.Prelude.{ℕ, zero, suc, ◌+◌, ◌*◌, ◌%◌, ◌≤◌, List, map}
use Rattle.std.specs.List.{range_with_len}

-- a number at which a stream may stand
abbrev pub IsSeed : ℕ → Type 0
IsSeed seed = (1 ≤ seed) × (seed ≤ 2147483646)

-- where a stream stands 131,071 draws later: 789557446 is 48271 to the 131,071th, modulo 2147483647
abbrev pub after_jump : ℕ → ℕ
after_jump seed = 789557446 * seed % 2147483647

-- the seed at a place, from 0
unfoldable pub seed_at : ℕ → ℕ
seed_at zero = 1
seed_at (suc place) = after_jump (seed_at place)

-- the seeds of the 16 streams of a run, from 0
unfoldable pub seeds_of_run : ℕ → List ℕ
seeds_of_run run = map (λ i. seed_at (16 * run + i)) (range_with_len 0 16)
