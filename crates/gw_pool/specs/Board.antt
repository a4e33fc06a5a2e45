-- The progress board: a word for each slot, what seats know of the words, and the kinds of step.
use Rattle.std.specs.Prelude.{◌≡◌, ◌≢◌, ℕ, ◌≤◌, ◌^◌, List, length, max, replicate, slice_index}
use mathlib.Core.Option.{some}
use lib.ListN.{get_elem?}
use Rattle.atomic_table.specs.Table.{Me, Step}
use Rattle.atomic_table.specs.Seated.{TableId}
use Rattle.gw_service.specs.Calls.{most_jobs}
use Rattle.gw_pool.specs.declared.view.View.{View}

-- SEATS AND THEIR VIEWS

-- no count is greater: no job makes more steps
abbrev pub most_count : ℕ
most_count = 2 ^ 40

-- the count that a view has for a slot
abbrev pub count : View → ℕ → ℕ
count v k = slice_index v.counts k

-- the view that has 0 for each slot
abbrev pub empty_view : View
empty_view = record { counts = replicate most_jobs 0 }

-- what a seat is: the board that it is of, and what it knows of that board
pub record Seat : Type 0 where
  pub board : TableId
  pub view : View

-- a seat of a board, with what it knows
abbrev pub seat_of : TableId → View → Seat
seat_of b v = record { board = b; view = v }

-- THE RULE

-- each count of a view is at most the slot's word
pub record FitsWords (words : List ℕ) (v : View) : Type 0 where
  pub len : length v.counts ≡ most_jobs
  pub least : (k : ℕ) → count v k ≤ slice_index words k

-- there is a word for each slot, none above 2^40, and each seat's view fits the words
pub record IsBoard (words : List ℕ) (views : List View) : Type 0 where
  pub len : length words ≡ most_jobs
  pub most : (k : ℕ) → slice_index words k ≤ most_count
  pub fit : (id : ℕ) (v : View) → get_elem? views id ≡ some v → FitsWords words v

-- STEPS

-- the views have the same counts, but for this slot
abbrev pub SameBut : ℕ → View → View → Type 0
SameBut slot v w = (k : ℕ) → k ≢ slot → count w k ≡ count v k

-- the second view has for this slot the greater of the first's count and n, and else the first's counts
pub record IsRaised (slot n : ℕ) (v w : View) : Type 0 where
  pub count : count w slot ≡ max (count v slot) n
  pub others : SameBut slot v w

-- n was read for this slot: no less than the first view had, and what the second has; else it has the first's counts
pub record IsReading (slot n : ℕ) (v w : View) : Type 0 where
  pub least : count v slot ≤ n
  pub most : n ≤ most_count
  pub count : count w slot ≡ n
  pub others : SameBut slot v w

-- a seat raises a word
abbrev pub Publishes : Step ℕ → Me ℕ View → ℕ → Me ℕ View → Type 0
Publishes s v n w = (w.1 ≡ v.1) × IsRaised s.word s.first v.0 w.0

-- a seat reads a word
abbrev pub Reads : Step ℕ → Me ℕ View → ℕ → Me ℕ View → Type 0
Reads s v n w = (w.1 ≡ v.1) × IsReading s.word n v.0 w.0
