-- The orders in which members of a chain stand.
use Rattle.std.specs.Prelude.{◌≡◌, ℕ, ℤ, ◌≤ℤ◌, int_le, true, false, AllPairs, List}
use Rattle.std.specs.List.Sorted.{IsPartitionPoint}
use Rattle.gw_members.specs.declared.tx.Member.{Member}

module _ {A : Type 0} where
  -- in the order of priorities, a higher one first
  abbrev pub IsByPriority : (A → ℤ) → List A → Type 0
  IsByPriority priority xs = AllPairs (λ x y. priority y ≤ℤ priority x) xs

  -- in the order of times, an earlier one first
  abbrev pub IsInTime : (A → ℤ) → List A → Type 0
  IsInTime time xs = AllPairs (λ x y. time x ≤ℤ time y) xs

-- the place of a newcomer of a priority: behind all of equal or higher priority, and before all others
abbrev pub IsPlaceBehind : ℤ → List Member → ℕ → Type 0
IsPlaceBehind priority xs i =
    IsPartitionPoint (λ (m : Member). int_le priority m.priority ≡ true) (λ (m : Member). int_le priority m.priority ≡ false) xs i
