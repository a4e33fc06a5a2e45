-- The slots of a slab: how many a call takes, where it takes no memory.
use Rattle.std.specs.Prelude.{◌≡◌, ◌≤◌, ◌+◌, ◌-◌, ℕ, min}
use Rattle.std.specs.declared.collections.VecDeque.{VecDeque}
use Rattle.slab.specs.Slab.{Slab, slab_len}
use Rattle.gw_members.specs.Lists.{room_of}
use Rattle.gw_chains.specs.Queues.{space_in}

module _ {T : Type 0} where
  -- a slab has one value more than before, and room for as many in all
  abbrev pub TakesOneSlot : Slab T → Slab T → Type 0
  TakesOneSlot old new = (slab_len new ≡ slab_len old + 1) × (new.capacity ≡ old.capacity)

  -- a slab has no more values than before, and room for as many in all
  abbrev pub TakesNoSlot : Slab T → Slab T → Type 0
  TakesNoSlot old new = (slab_len new ≤ slab_len old) × (new.capacity ≡ old.capacity)

  -- a slab has as many values as before, and room for as many in all
  abbrev pub KeepsSlots : Slab T → Slab T → Type 0
  KeepsSlots old new = (slab_len new ≡ slab_len old) × (new.capacity ≡ old.capacity)

module _ {T X Z : Type 0} where
  -- how many more members fit into buckets in a row and their links, where there are so many
  abbrev pub row_room : ℕ → VecDeque X Z → Slab T → ℕ
  row_room count row links = room_of count (min (links.capacity - slab_len links) (space_in row))
