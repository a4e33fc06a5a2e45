-- The tables by number that the slots of a slab make: each slot that is taken has a number and a value.
use Rattle.std.specs.Prelude.{◌≡◌, ℕ, suc, ◌+◌, ◌-◌, ◌^◌, ◌<◌, ◌≤◌, ◌==◌, min, List, [], ◌∷◌, replicate, Option, Some, None, slice_index_or}
use Rattle.std.specs.Prelude.{unwrap_or, if◌then◌else◌}
use Rattle.slab.specs.Slab.{Slab, slab_len, get, ContainsKey}
use Rattle.gw_transactions.specs.declared.Kept.{Kept}
use Rattle.gw_num.specs.Table.{at, put}
use Rattle.gw_transactions.specs.Parameters.{Numbered, none_of}
use Rattle.gw_transactions.specs.Transactions.{Population, LiveTransaction, ListedTransaction, listed_as, here_count}

module _ {X Y : Type 0} (entry : ℕ → X → Y) (next : ℕ) where
  -- the table of these slots up to the next number, the first slot being at this place: each slot's number has the
  -- entry of the slot's place and value
  abbrev pub by_number : ℕ → List (Option (ℕ × X)) → List (Option Y)
  by_number place [] = replicate next None
  by_number place (None ∷ slots) = by_number (suc place) slots
  by_number place (Some slot ∷ slots) = put None (by_number (suc place) slots) slot.0 (Some (entry place slot.1))

-- the parameters under a key; none where nothing is kept there
abbrev pub row_at : Slab Numbered → ℕ → Numbered
row_at beside key = unwrap_or (get beside key) (none_of 0)

-- a transaction that is kept, with its parameters, which lie beside it
abbrev pub live_as : Slab Numbered → Kept → LiveTransaction
live_as beside kept = record { attributes = kept.attributes; parameters = (row_at beside kept.key).values; chain = kept.chain }

-- what an entry of a slab lists of the transaction that it keeps
abbrev pub listed_in : Slab Numbered → ℕ × (ℕ × Kept) → ListedTransaction
listed_in beside entry = listed_as (live_as beside entry.1.1)

-- how many more fit into a slab with no allocation
abbrev pub space_in : {X : Type 0} → Slab X → ℕ
space_in s = s.capacity - slab_len s

-- how many more transactions fit: beside them too, where they have parameters
abbrev pub room_for : Slab (ℕ × Kept) → Slab Numbered → ℕ → ℕ
room_for s beside last = if last == 0 then space_in s else min (space_in s) (space_in beside)

-- what the slots, what lies beside them, the next number and the greatest number of a parameter show
abbrev pub population_of : Slab (ℕ × Kept) → Slab Numbered → ℕ → ℕ → Population
population_of s beside next last =
    record {
      txs = by_number (λ place kept. live_as beside kept) next 0 s.slots;
      places = by_number (λ place kept. place) next 0 s.slots;
      room = room_for s beside last;
      last = last;
    }

-- the slots' numbers count from 1 and were given out, and no two slots have the same
pub record AreNumbered {X : Type 0} (slots : List (Option (ℕ × X))) (next : ℕ) : Type 0 where
  pub few : next ≤ 2 ^ 62
  pub given : (p : ℕ) (a : ℕ × X) → slice_index_or slots p None ≡ Some a → (0 < a.0) × (a.0 < next)
  pub distinct : (p q : ℕ) (a b : ℕ × X) → slice_index_or slots p None ≡ Some a → slice_index_or slots q None ≡ Some b → a.0 ≡ b.0 → p ≡ q

-- the count of each block is how many have it as their current one
abbrev pub AreCounted : List ℕ → List (Option LiveTransaction) → Type 0
AreCounted counts txs = (block : ℕ) → at 0 counts block ≡ here_count block txs

-- by the counts of blocks one goes from a block to another, which may be the same
abbrev pub CountsGo : ℕ → ℕ → List ℕ → List ℕ → Type 0
CountsGo from to old new =
    (b : ℕ) → at 0 new b + (if from == b then 1 else 0) ≡ at 0 old b + (if to == b then 1 else 0)

-- each has parameters up to the same number, under a key of its own if there are any; where there are none nothing is kept
pub record HaveTheirOwn (last : ℕ) (beside : Slab Numbered) (slots : List (Option (ℕ × Kept))) : Type 0 where
  pub room : slab_len beside ≤ beside.capacity
  pub alike : (p : ℕ) (a : ℕ × Kept) → slice_index_or slots p None ≡ Some a → (row_at beside a.1.key).last ≡ last
  pub there : (p : ℕ) (a : ℕ × Kept) → slice_index_or slots p None ≡ Some a → 0 < last → ContainsKey beside a.1.key
  pub apart : (p q : ℕ) (a b : ℕ × Kept) → slice_index_or slots p None ≡ Some a → slice_index_or slots q None ≡ Some b → 0 < last → a.1.key ≡ b.1.key → p ≡ q
  pub none : last ≡ 0 → (key : ℕ) → get beside key ≡ None
