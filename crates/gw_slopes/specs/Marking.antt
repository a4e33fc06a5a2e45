-- Marks that are put one after the other.
use Rattle.std.specs.Prelude.{◌≡◌, ℕ, suc, ◌+◌, ◌<◌, ◌≤◌, List, [], ◌∷◌, length, slice_index_or, slice_get, set, Bool, true, false, not, ◌&&◌, if◌then◌else◌}
use Rattle.gw_object.specs.declared.parts.Parts.{Parts}
use Rattle.gw_rules.specs.Flow.{own_row}
use Rattle.gw_slopes.specs.Sloped.{Sloped, marked_at, asks}

-- whether the block at a place, from 0, isn't marked, and is a LOOP on the parameter or leads to a marked one
abbrev pub is_due : Parts → ℕ → List Bool → ℕ → Bool
is_due p q marks i = not (slice_index_or marks i false) && asks p marks q (suc i) (slice_get p.blocks i)

-- the marks, with one more if that is due
abbrev pub marked_if : Bool → List Bool → ℕ → List Bool
marked_if due marks i = if due then set marks i true else marks

-- each mark is on a block that gets a slope
abbrev pub AreSound : Parts → ℕ → List Bool → Type 0
AreSound p q marks = (b : ℕ) → marked_at marks b ≡ true → Sloped p.blocks (own_row p) q b

-- there are as many marks as before, and they are sound if they were
abbrev pub StaySound : Parts → ℕ → List Bool → List Bool → Type 0
StaySound p q old new = (length new ≡ length old) × (AreSound p q old → AreSound p q new)

-- 1 for a mark that is missing
abbrev pub lacks : Bool → ℕ
lacks true = 0
lacks false = 1

-- how many marks are missing
abbrev pub missing_marks : List Bool → ℕ
missing_marks [] = 0
missing_marks (m ∷ ms) = lacks m + missing_marks ms

-- what so many steps of a round, from the last block on, make of marks: each is sound still; and where none was put, none was due there
pub record IsOn (p : Parts) (q steps : ℕ) (old new : List Bool) (marked : Bool) : Type 0 where
  pub many : length new ≡ length old
  pub sound : AreSound p q old → AreSound p q new
  pub fewer : marked ≡ true → missing_marks new < missing_marks old
  pub same : marked ≡ false → new ≡ old
  pub none : marked ≡ false → (i : ℕ) → i < length old → length old ≤ i + steps → is_due p q old i ≡ false

-- and what a whole round makes
pub record IsRound (p : Parts) (q : ℕ) (old new : List Bool) (marked : Bool) : Type 0 where
  pub many : length new ≡ length old
  pub sound : AreSound p q old → AreSound p q new
  pub fewer : marked ≡ true → missing_marks new < missing_marks old
  pub same : marked ≡ false → new ≡ old
  pub none : marked ≡ false → (i : ℕ) → i < length old → is_due p q old i ≡ false
