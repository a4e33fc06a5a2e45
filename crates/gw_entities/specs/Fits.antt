-- How far the numbers of an entity may have come after so many clock units.
use Rattle.std.specs.Prelude.{ℕ, ◌+◌, ◌*◌, ◌^◌, ◌<◌, ◌≤◌}
use Rattle.gw_entities.specs.declared.contents.Contents.{Contents}
use Rattle.gw_entities.specs.declared.facilities.Facility.{Facility}
use Rattle.gw_entities.specs.declared.storages.Storage.{Storage}

-- a facility was busy for no longer than time passed
pub record FacilityFits (passed : ℕ) (f : Facility) : Type 0 where
  pub entries : f.entries ≤ 2 ^ 62
  pub busy : f.busy ≤ passed

-- what is inside is at most the maximum, and that is at most so much; the average over time is at most the maximum
pub record ContentsFit (most passed : ℕ) (c : Contents) : Type 0 where
  pub content : c.content ≤ c.maximum
  pub maximum : c.maximum ≤ most
  pub entries : c.entries ≤ 2 ^ 62
  pub time_sum : c.time_sum ≤ c.maximum * passed

-- a storage holds at most its capacity
pub record StorageFits (passed : ℕ) (s : Storage) : Type 0 where
  pub capacity : s.capacity < 2 ^ 32
  pub contents : ContentsFit s.capacity passed s.contents

-- a queue holds at most what can be counted
abbrev pub QueueFits : ℕ → Contents → Type 0
QueueFits passed q = ContentsFit (2 ^ 62) passed q

-- what fits does so still
abbrev pub StaysFit : {T : Type 0} → (ℕ → T → Type 0) → T → T → Type 0
StaysFit Fits old new = (passed : ℕ) → Fits passed old → Fits passed new

-- what fits does so in so much time more
abbrev pub FitsLater : {T : Type 0} → (ℕ → T → Type 0) → ℕ → T → T → Type 0
FitsLater Fits dt old new = (passed : ℕ) → Fits passed old → Fits (passed + dt) new

-- contents that fit do so with n units more, where no more are inside then than there may be
abbrev pub FitsWithMore : ℕ → Contents → Contents → Type 0
FitsWithMore n old new = (most passed : ℕ) → ContentsFit most passed old → old.content + n ≤ most → ContentsFit most passed new
