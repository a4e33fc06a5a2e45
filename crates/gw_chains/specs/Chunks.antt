-- A list that is kept in chunks: queues of fewer than a number of elements, one behind the other, none of them empty.
use Rattle.std.specs.Prelude.{◌≡◌, ◌<◌, ◌≤◌, ◌⊎◌, ℕ, ◌+◌, ◌-◌, ◌^◌, min, List, [], ◌∷◌, ◌++◌, length, take, drop, slice_index_or, option_to_list}
use Rattle.std.specs.Prelude.{Option, Some, None, Bool, false}
use Rattle.std.specs.Borrow.{Bor}
use Rattle.std.specs.Option.{option_copied}
use Rattle.std.specs.VecDeque.{deque_len, deque_capacity}
use Rattle.std.specs.VecDeque.Iter.{deque_iter_rest}
use Rattle.std.specs.declared.collections.VecDeque.{VecDeque}
use Rattle.std.specs.declared.collections.vec_deque.Iter.{Iter}

-- a chunk that comes to have so many elements is full, and is split
abbrev pub most_in_chunk : ℕ
most_in_chunk = 128

module _ {X Z : Type 0} where
  -- the elements of all chunks, in order
  abbrev pub all_of : List (VecDeque X Z) → List X
  all_of [] = []
  all_of (c ∷ cs) = c.items ++ all_of cs

  -- the elements of a chunk, if there is one
  abbrev pub items_of : Option (VecDeque X Z) → List X
  items_of None = []
  items_of (Some c) = c.items

  -- something holds of the elements of the chunk at a place
  abbrev pub HoldsInChunk : (List X → Type 0) → List (VecDeque X Z) → ℕ → Type 0
  HoldsInChunk P chunks place = (d : VecDeque X Z) → P (slice_index_or chunks place d).items

  -- an element stands at a place of the chunk of a number
  abbrev pub StandsAt : X → ℕ → ℕ → List (VecDeque X Z) → Type 0
  StandsAt x chunk place chunks =
      (chunk < length chunks)
      × ((d : VecDeque X Z) → place < length (slice_index_or chunks chunk d).items)
      × ((d : VecDeque X Z) → x ≡ slice_index_or (slice_index_or chunks chunk d).items place x)

  -- an element is the last of a chunk
  abbrev pub IsLastOf : X → VecDeque X Z → Type 0
  IsLastOf x c = (0 < deque_len c) × (x ≡ slice_index_or c.items (deque_len c - 1) x)

  -- the elements of chunks stay as they were but for those of the chunk at a place, to which f is done
  abbrev pub ChangesChunk : ℕ → (List X → List X) → VecDeque (VecDeque X Z) Z → VecDeque (VecDeque X Z) Z → Type 0
  ChangesChunk place f old new =
      (d : VecDeque X Z) → all_of new.items ≡ all_of (take place old.items)
      ++ (f (slice_index_or old.items place d).items ++ all_of (drop (place + 1) old.items))

  -- fewer chunks than so many more fit with no allocation, or there are fewer spare ones
  abbrev pub LacksChunks : ℕ → VecDeque (VecDeque X Z) Z → List (VecDeque X Z) → Type 0
  LacksChunks more chunks spare = (deque_capacity chunks < deque_len chunks + more) ⊎ (length spare < more)

  -- a chunk has an element, and room for one more
  pub record IsChunk (c : VecDeque X Z) : Type 0 where
    pub some : 0 < deque_len c
    pub less : deque_len c < most_in_chunk
    pub room : most_in_chunk ≤ deque_capacity c

  -- a spare chunk has no element, and room for all that one may have
  pub record IsSpare (c : VecDeque X Z) : Type 0 where
    pub none : c.items ≡ []
    pub room : most_in_chunk ≤ deque_capacity c

-- what an iterator over a chunk has still to yield, if there is one
abbrev pub rest_of : {X : Type 0} → Option (Iter X) → List X
rest_of None = []
rest_of (Some it) = deque_iter_rest it

-- what iterators over a chunk and over those behind it have still to yield
abbrev pub left_in : {X Z : Type 0} → Option (Iter X) → Iter (VecDeque X Z) → List X
left_in chunk chunks = rest_of chunk ++ all_of (deque_iter_rest chunks)

-- of what was left the first is yielded, if there is one, and the others are left
abbrev pub YieldsNext : {X : Type 0} → Option (Bor X) → List X → List X → Type 0
YieldsNext x old new = old ≡ option_to_list (option_copied x) ++ new

-- whether the first passes, if there is one
abbrev pub begins_in : {A : Type 0} → (A → Bool) → List A → Bool
begins_in p [] = false
begins_in p (x ∷ xs) = p x

-- how many more fit beside so many, where there is room for so many links, spare chunks and chunks
abbrev pub room_beside : ℕ → ℕ → ℕ → ℕ → ℕ
room_beside members links spare chunks = min (min links (min spare chunks)) (2 ^ 62 - members)
