-- Future events: few of them in a vector, or many in buckets.
use Rattle.std.specs.Prelude.{◌≡◌, ◌<◌, ◌⊎◌, ℕ, ◌≤ℤ◌, ◌+◌, ◌-◌, ◌==◌, min, max, List, [], ◌∷◌, ◌++◌, length, reverse, Vec, if◌then◌else◌}
use Rattle.std.specs.Vec.{vec_capacity}
use Rattle.gw_members.specs.Members.{with_event}
use Rattle.gw_members.specs.declared.tx.Event.{Event}
use Rattle.gw_chains.specs.Chunks.{room_beside}

-- so many events are few
abbrev pub most_few : ℕ
most_few = 64

-- events by their times
abbrev pub NotLater : Event → Event → Type 0
NotLater a b = a.time ≤ℤ b.time

-- what a contract sees of events in buckets: them in order, and for how many more links, chunks that are split and chunks there is room
pub record Bucketed : Type 0 where
  pub items : List Event
  pub links : ℕ
  pub spare : ℕ
  pub chunks : ℕ

-- there is room for fewer links than so many, or for fewer chunks
abbrev pub LacksRoomFor : ℕ → ℕ → Bucketed → Type 0
LacksRoomFor links chunks b = (b.links < links) ⊎ (b.spare < chunks) ⊎ (b.chunks < chunks)

-- how many more fit in buckets, where so few come into them first, all of them into a chunk of their own
abbrev pub room_behind : ℕ → Bucketed → ℕ
room_behind few b = room_beside (few + length b.items) (b.links - few) (b.spare - min few 1) (b.chunks - min few 1)

-- how many more fit into a vector of so few that has this capacity; none while there are so many in buckets
abbrev pub space_beside : ℕ → ℕ → ℕ → ℕ
space_beside many capacity few = if many == 0 then min capacity most_few - few else 0

-- how many more fit, in either way
abbrev pub room_for_events : ℕ → ℕ → Bucketed → ℕ
room_for_events capacity few b = max (space_beside (length b.items) capacity few) (room_behind few b)

-- how many more fit beside so few in a vector and so many in buckets
abbrev pub event_room : {Z : Type 0} → Vec Event Z → Bucketed → ℕ
event_room few many = room_for_events (vec_capacity few) (length few.items) many

-- events of which the first to come stands last: one behind them, a newcomer, comes to its place by time
abbrev pub MovesUp : Event → List Event → List Event → Type 0
MovesUp newcomer old new =
    (others : List Event) → old ≡ others ++ newcomer ∷ [] → reverse new ≡ with_event newcomer (reverse others)
