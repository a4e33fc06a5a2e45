-- The lists of several entities, each list by the number of its entity.
use Rattle.std.specs.Prelude.{ℕ, ◌+◌, ◌-◌, ◌^◌, ◌≤◌, min, List, [], remove}
use Rattle.gw_num.specs.Table.{at, put}

module _ {T : Type 0} where
  -- the lists, where f was done to the list of this entity
  abbrev pub apply_at : ℕ → (List T → List T) → List (List T) → List (List T)
  apply_at entity f lists = put [] lists entity (f (at [] lists entity))

  -- the lists, where the one at a place of the list of this entity was taken out
  abbrev pub without_at : ℕ → ℕ → List (List T) → List (List T)
  without_at entity place lists = apply_at entity (λ xs. remove xs place) lists

-- each list has room for at most n fewer than before
abbrev pub LosesRoom : ℕ → List ℕ → List ℕ → Type 0
LosesRoom n old new = (e : ℕ) → at 0 old e ≤ at 0 new e + n

-- how many more fit on a list that has this room in memory, where all lists have so many members
abbrev pub room_of : ℕ → ℕ → ℕ
room_of members room = min room (2 ^ 62 - members)
