-- Values by entity number, over which time passes.
use Rattle.std.specs.Prelude.{◌≡◌, ℕ, ◌+◌, ◌-◌, ◌≤◌, List, map}
use Rattle.gw_num.specs.Table.{at, put}
use Rattle.gw_object.specs.declared.parts.Entity.{Entity}
use Rattle.gw_object.specs.declared.parts.Kind.{Kind}
use Rattle.gw_entities.specs.declared.numbered.Kept.{Kept}

-- the value of each entity, and how many clock units passed so far
pub record ByNumber (T : Type 0) : Type 0 where
  pub values : List T
  pub passed : ℕ

-- what is kept of each of these entities, by its kind
abbrev pub of_each : {T : Type 0} → (Kind → T) → List Entity → List T
of_each of_kind entities = map (λ (e : Entity). of_kind e.kind) entities

-- the values of these entities at clock 0
abbrev pub at_start : {T : Type 0} → (Kind → T) → List Entity → ByNumber T
at_start fresh entities = record { values = of_each fresh entities; passed = 0 }

-- so many clock units later
abbrev pub values_after : {T : Type 0} → (ℕ → T → T) → ℕ → ByNumber T → ByNumber T
values_after after dt t = record { values = map (after dt) t.values; passed = t.passed + dt }

-- the value of an entity; d where there is no such number
abbrev pub value_at : {T : Type 0} → T → ℕ → ByNumber T → T
value_at d number t = at d t.values number

-- the value of an entity is this one, and every other one is as it was
abbrev pub with_value : {T : Type 0} → T → ℕ → T → ByNumber T → ByNumber T
with_value d number value t = record t { values = put d t.values number value }

-- the value of an entity changes, if any does, and every other one is as it was
abbrev pub OthersStay : {T : Type 0} → T → ℕ → ByNumber T → ByNumber T → Type 0
OthersStay d number old new = new ≡ with_value d number (value_at d number new) old

-- the value once so many clock units have passed in all, if nothing else happened
abbrev pub today : {T : Type 0} → (ℕ → T → T) → ℕ → Kept T → T
today after passed k = after (passed - k.since) k.value

-- it last changed in the past, and fits what it was then
pub record IsKept {T : Type 0} (Fits : ℕ → T → Type 0) (passed : ℕ) (k : Kept T) : Type 0 where
  pub since : k.since ≤ passed
  pub fits : Fits k.since k.value
