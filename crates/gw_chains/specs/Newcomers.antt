-- A list that is kept in an order, in which one that is the like of a newcomer takes it in.
use Rattle.std.specs.Prelude.{◌≡◌, ◌<◌, ℕ, ◌+◌, ◌++◌, true, false, List, [], ◌∷◌, AllPairs, Option, Some, None, Bool, if◌then◌else◌}
use Rattle.std.specs.List.Sorted.{IsPartitionedBy, IsPartitionPoint}
use Rattle.std.specs.VecDeque.{deque_len}
use Rattle.std.specs.declared.collections.VecDeque.{VecDeque}
use Rattle.gw_chains.specs.Chunks.{all_of, items_of, begins_in, HoldsInChunk, ChangesChunk}

module _ {A : Type 0} (goes_first : A → A → Bool) where
  -- the like of a newcomer: each goes first of the other
  abbrev pub host : A → List A → Option A
  host x [] = None
  host x (y ∷ ys) = if goes_first y x then (if goes_first x y then Some y else host x ys) else None

  -- a list that a newcomer comes to: its like takes it in, or it stands behind all that go first
  abbrev pub with_newcomer : (A → A → A) → A → List A → List A
  with_newcomer with_guest x [] = x ∷ []
  with_newcomer with_guest x (y ∷ ys) =
      if goes_first y x then (if goes_first x y then with_guest y x ∷ ys else y ∷ with_newcomer with_guest x ys) else x ∷ y ∷ ys

  -- the like of a newcomer stands before nobody that goes first
  abbrev pub IsHostLast : A → List A → Type 0
  IsHostLast x = AllPairs (λ y z. goes_first z x ≡ true → goes_first x y ≡ false)

  -- those that go ahead of a newcomer stand before all others
  abbrev pub GoFirst : A → List A → Type 0
  GoFirst x ys = IsPartitionedBy (λ y. goes_first y x) ys

  -- the place of a newcomer: behind all that go ahead of it, and before all others
  abbrev pub IsPlaceOf : A → List A → ℕ → Type 0
  IsPlaceOf x ys i = IsPartitionPoint (λ y. goes_first y x ≡ true) (λ y. goes_first y x ≡ false) ys i

module _ {A Z : Type 0} (goes_first : A → A → Bool) where
  -- the chunk at a place doesn't begin with one that goes ahead of a newcomer
  abbrev pub BeginsBehind : A → List (VecDeque A Z) → ℕ → Type 0
  BeginsBehind x chunks place = HoldsInChunk (λ ys. begins_in (λ y. goes_first y x) ys ≡ false) chunks place

  -- the chunk at a place begins with one that goes ahead of a newcomer, unless it is the first
  abbrev pub BeginsBefore : A → VecDeque (VecDeque A Z) Z → ℕ → Type 0
  BeginsBefore x chunks place =
      HoldsInChunk (λ ys. 0 < place → begins_in (λ y. goes_first y x) ys ≡ true) chunks.items place

  -- the chunk behind the one at a place doesn't begin with one that goes ahead of a newcomer, if there is one
  abbrev pub NextBeginsBehind : A → VecDeque (VecDeque A Z) Z → ℕ → Type 0
  NextBeginsBehind x chunks place =
      HoldsInChunk (λ ys. place + 1 < deque_len chunks → begins_in (λ y. goes_first y x) ys ≡ false) chunks.items (place + 1)

  -- a newcomer comes to a chunk, whose upper half is in another one then, if there is one
  abbrev pub ChunkTakesIn : (A → A → A) → A → VecDeque A Z → VecDeque A Z → Option (VecDeque A Z) → Type 0
  ChunkTakesIn with_guest x old new upper = new.items ++ items_of upper ≡ with_newcomer goes_first with_guest x old.items

  -- a newcomer comes to the chunk at a place
  abbrev pub TakesInAt : (A → A → A) → A → ℕ → VecDeque (VecDeque A Z) Z → VecDeque (VecDeque A Z) Z → Type 0
  TakesInAt with_guest x place old new = ChangesChunk place (with_newcomer goes_first with_guest x) old new

  -- a newcomer comes to chunks
  abbrev pub ChunksTakeIn : (A → A → A) → A → VecDeque (VecDeque A Z) Z → VecDeque (VecDeque A Z) Z → Type 0
  ChunksTakeIn with_guest x old new = all_of new.items ≡ with_newcomer goes_first with_guest x (all_of old.items)
