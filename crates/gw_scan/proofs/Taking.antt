-- Facilities and units that need not be waited for.
use Rattle.std.proofs.Common.{◌≡◌, ℕ, ◌≤◌, Option, Some, None, Bool, true, false, if◌then◌else◌, refl}
use Rattle.std.proofs.lemmas.Bool.{le-leb}
use Rattle.gw_entities.specs.declared.facilities.Facility.{Facility}
use Rattle.gw_entities.specs.declared.storages.Storage.{Storage}
use Rattle.gw_entities.specs.Facility.{is_idle, is_owned_by, with_owner, seizure_by}
use Rattle.gw_entities.specs.Storage.{fits_capacity, has_room, with_entries, entry_of}
use Rattle.gw_step.specs.Blocks.{has_to_wait}

-- a facility that the transaction neither owns nor has to wait for is idle, and it seizes it
pub seizes : (n : ℕ) (f : Facility) → is_owned_by n f ≡ false → has_to_wait (seizure_by n f) ≡ false → (is_idle f ≡ true)
    × (seizure_by n f ≡ Some (true, with_owner n f))
seizes n f other free = by_tests (is_owned_by n f) (is_idle f) other free
  where
    by_tests : (o i : Bool) → o ≡ false
        → has_to_wait (if◌then◌else◌ {A = Option (Bool × Facility)} o None
        (if◌then◌else◌ {A = Option (Bool × Facility)} i (Some (true, with_owner n f)) (Some (false, f)))) ≡ false
        → (i ≡ true) × (if◌then◌else◌ {A = Option (Bool × Facility)} o None
        (if◌then◌else◌ {A = Option (Bool × Facility)} i (Some (true, with_owner n f)) (Some (false, f))) ≡ Some (true, with_owner n f))
    by_tests true i other free = absurd cc
    by_tests false true other free = (refl, refl)
    by_tests false false other free = absurd cc

-- units within the capacity that it doesn't have to wait for are free, and it takes them
pub enters : (n : ℕ) (s : Storage) → n ≤ s.capacity → has_to_wait (entry_of n s) ≡ false → (has_room n s ≡ true)
    × (entry_of n s ≡ Some (true, with_entries n s))
enters n s whole free = by_tests (fits_capacity n s) (has_room n s) (le-leb n s.capacity whole) free
  where
    by_tests : (f r : Bool) → f ≡ true
        → has_to_wait (if◌then◌else◌ {A = Option (Bool × Storage)} f
        (if◌then◌else◌ {A = Option (Bool × Storage)} r (Some (true, with_entries n s)) (Some (false, s))) None) ≡ false
        → (r ≡ true) × (if◌then◌else◌ {A = Option (Bool × Storage)} f
        (if◌then◌else◌ {A = Option (Bool × Storage)} r (Some (true, with_entries n s)) (Some (false, s))) None ≡ Some (true, with_entries n s))
    by_tests false r whole free = absurd cc
    by_tests true true whole free = (refl, refl)
    by_tests true false whole free = absurd cc
