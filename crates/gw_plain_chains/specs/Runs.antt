-- A chain that is kept in two runs: its events, and its room, which is the settled run's, which the recent ones come to join.
use Rattle.std.specs.Prelude.{◌≡◌, ◌<◌, ◌<ℤ◌, ℕ, ℤ, ◌+◌, ◌-◌, nat_le, int_lt, Bool, true, false, List, [], ◌∷◌, slice_index_or, if◌then◌else◌}
use Rattle.std.specs.VecDeque.{deque_len, deque_capacity}
use Rattle.std.specs.declared.collections.VecDeque.{VecDeque}
use Rattle.gw_members.specs.Chain.{in_time}
use Rattle.gw_members.specs.declared.tx.Event.{Event}

module _ {A : Type 0} where
  -- a chain that is kept in two runs: the recent ones, one after the other, each at its place by time among those before
  abbrev pub merge_by_time : (A → ℤ) → List A → List A → List A
  merge_by_time time settled [] = settled
  merge_by_time time settled (x ∷ recent) = merge_by_time time (in_time time x settled) recent

  -- whether the first of a chain in two runs is a recent one: one that is scheduled before the first settled one
  abbrev pub begins_recent : (A → ℤ) → List A → List A → Bool
  begins_recent time settled [] = false
  begins_recent time [] (r ∷ recent) = true
  begins_recent time (x ∷ settled) (r ∷ recent) = int_lt (time r) (time x)

-- the most that are recent
abbrev pub most_recent : ℕ
most_recent = 512

-- how many more fit beside so many, where the runs have these capacities
abbrev pub room_for : ℕ → ℕ → ℕ → ℕ
room_for members settled recent = if nat_le most_recent recent then settled - members else 0

-- unless all of the first so many are passed, the event at a place is scheduled for later than a time
abbrev pub IsLaterAt : ℤ → ℕ → ℕ → List Event → Type 0
IsLaterAt time unseen place xs = (d : Event) → place < unseen → time <ℤ (slice_index_or xs place d).time

module _ {Z : Type 0} where
  -- the events of both runs, by their times
  abbrev pub events_in : VecDeque Event Z → VecDeque Event Z → List Event
  events_in settled recent = merge_by_time (λ (e : Event). e.time) settled.items recent.items

  -- how many they are
  abbrev pub many_in : VecDeque Event Z → VecDeque Event Z → ℕ
  many_in settled recent = deque_len settled + deque_len recent

  -- how many more fit
  abbrev pub room_in : VecDeque Event Z → VecDeque Event Z → ℕ
  room_in settled recent = room_for (many_in settled recent) (deque_capacity settled) (deque_capacity recent)

  -- both runs have the events that they had
  abbrev pub HaveSame : VecDeque Event Z → VecDeque Event Z → VecDeque Event Z → VecDeque Event Z → Type 0
  HaveSame settled recent settled_new recent_new = (settled_new.items ≡ settled.items) × (recent_new.items ≡ recent.items)

  -- and as many
  abbrev pub HaveAsMany : VecDeque Event Z → VecDeque Event Z → VecDeque Event Z → VecDeque Event Z → Type 0
  HaveAsMany settled recent settled_new recent_new =
      (deque_len settled_new ≡ deque_len settled) × (deque_len recent_new ≡ deque_len recent)

  -- and the same capacities
  abbrev pub HaveCapacities : VecDeque Event Z → VecDeque Event Z → VecDeque Event Z → VecDeque Event Z → Type 0
  HaveCapacities settled recent settled_new recent_new =
      (deque_capacity settled_new ≡ deque_capacity settled) × (deque_capacity recent_new ≡ deque_capacity recent)
