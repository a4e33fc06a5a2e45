-- A job of seeds, a count and a budget in range has its numbers in range.
use Rattle.std.proofs.Common.{◌≡◌, ℕ, zero, suc, ◌+◌, ◌≤◌, ◌<◌, ◌^◌, List, [], ◌∷◌, length, None, Bool, true, false, if◌then◌else◌, ◌==◌, refl, sym}
use Rattle.std.proofs.Common.{subst, arith}
use Rattle.std.specs.Prelude.{nat_le, slice_index_or}
use Rattle.std.specs.List.{All, AllByRecursion, list_all}
use Rattle.std.proofs.lemmas.Bool.Decides.{nat_tests}
use Rattle.std.proofs.lemmas.Bool.{leb-true, eqb-false, and_parts}
use Rattle.std.proofs.lemmas.List.Elements.{All-from_get_or, recursion_from_All}
use Rattle.std.proofs.lemmas.List.FromFn.{length-map-range_with_len, get_or-map-range_with_len}
use Rattle.gw_step.specs.Job.{seed_at, streams_of}
use Rattle.gw_scan.specs.Making.{seeds_fit, spec_fault, seeds_or, count_or}

-- seeds, a count and a budget of which nothing is refused are in range
pub in_range : (seeds : List ℕ) (count budget : ℕ) → spec_fault seeds count budget ≡ None → (seeds_fit seeds ≡ true) × (count ≤ 2 ^ 40)
    × (0 < budget) × (budget ≤ 2 ^ 40)
in_range seeds count budget none = grind (arith, nat_tests)

tested : (seeds : List ℕ) → list_all (λ seed. nat_le seed 2147483646) seeds ≡ true → AllByRecursion (λ seed. seed ≤ 2147483646) seeds
tested [] e = tt
tested (x ∷ xs) e = let both = and_parts (nat_le x 2147483646) (list_all (λ seed. nat_le seed 2147483646) xs) e in
    (leb-true x 2147483646 both.0, tested xs both.1)

within-at : (seeds : List ℕ) → AllByRecursion (λ seed. seed ≤ 2147483646) seeds → (i : ℕ) → slice_index_or seeds i 0 ≤ 2147483646
within-at [] h i = omega arith
within-at (x ∷ xs) h zero = h.0
within-at (x ∷ xs) h (suc i) = within-at xs h.1 i

given_or_own : (x i : ℕ) → x ≤ 2147483646 → i < 16 → (1 ≤ (if x == 0 then i + 1 else x)) × ((if x == 0 then i + 1 else x) ≤ 2147483646)
given_or_own x i most below = by (x == 0) refl
  where
    by : (b : Bool) → x == 0 ≡ b → (1 ≤ (if b then i + 1 else x)) × ((if b then i + 1 else x) ≤ 2147483646)
    by true e = (omega arith, omega arith)
    by false e = (omega (arith, eqb-false x 0 e), most)

module _ (seeds : List ℕ) (within : AllByRecursion (λ seed. seed ≤ 2147483646) seeds) where
  pub length-streams : length (streams_of seeds) ≡ 16
  length-streams = length-map-range_with_len (seed_at seeds) 0 16

  pub streams_fit : All (λ seed. (1 ≤ seed) × (seed ≤ 2147483646)) (streams_of seeds)
  streams_fit = All-from_get_or (λ seed. (1 ≤ seed) × (seed ≤ 2147483646)) (streams_of seeds) 0 (λ i below.
      let in_16 : i < 16 = omega (arith, length-streams) in
      subst (λ (seed : ℕ). (1 ≤ seed) × (seed ≤ 2147483646)) (sym (get_or-map-range_with_len (seed_at seeds) 0 16 i i 0 in_16 (omega arith)))
      (given_or_own (slice_index_or seeds i 0) i (within-at seeds within i) in_16))

-- the seeds that are given, which were tested, or the object's own
pub seeds-within : (seeds own : List ℕ) → seeds_fit seeds ≡ true → All (λ seed. seed ≤ 2147483646) own
    → AllByRecursion (λ seed. seed ≤ 2147483646) (seeds_or seeds own)
seeds-within [] own e h = recursion_from_All (λ seed. seed ≤ 2147483646) own h
seeds-within (seed ∷ seeds) own e h =
    tested (seed ∷ seeds) (and_parts (nat_le (length (seed ∷ seeds)) 16) (list_all (λ s. nat_le s 2147483646) (seed ∷ seeds)) e).1

-- the count that is given, or the object's own
pub count-within : (count own : ℕ) → count ≤ 2 ^ 40 → 1 ≤ own → own ≤ 2 ^ 40 → (0 < count_or count own) × (count_or count own ≤ 2 ^ 40)
count-within count own most least own_most = by (count == 0) refl
  where
    by : (b : Bool) → count == 0 ≡ b → (0 < (if b then own else count)) × ((if b then own else count) ≤ 2 ^ 40)
    by true e = (omega arith, own_most)
    by false e = (omega (arith, eqb-false count 0 e), most)
