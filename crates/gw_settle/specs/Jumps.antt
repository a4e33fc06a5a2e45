-- Jumps: many rounds at once, where each lowers the amounts as the one before it did, and changes nothing else.
use Rattle.std.specs.Prelude.{◌≡◌, ◌⊎◌, ℕ, zero, suc, ◌+◌, ◌-◌, ◌*◌, ◌≤◌, ◌<◌, List, [], ◌∷◌, Option, Some, None, IsSomeAnd, slice_get}
use Rattle.std.specs.Option.{option_flatten}
use Rattle.gw_object.specs.declared.blocks.Block.{Block}
use Rattle.gw_object.specs.declared.blocks.Block.TheVariants as blocks
use Rattle.gw_object.specs.declared.blocks.Units.{Units}
use Rattle.gw_object.specs.declared.parts.Parts.{Parts}
use Rattle.gw_rules.specs.Kinds.{block_at}
use Rattle.gw_rules.specs.declared.edges.Target.TheVariants as targets
use Rattle.gw_rules.specs.Entries.{amount_of}
use Rattle.gw_rules.specs.Rows.{Row, units_of, nonzero}
use Rattle.gw_settle.specs.declared.table.Change.{Change}
use Rattle.gw_settle.specs.declared.table.Change.TheVariants.{Same, Less, More}
use Rattle.gw_settle.specs.Joins.{keep}
use Rattle.gw_settle.specs.Rounds.{TableRows, as_table, round, rounds, change_in}
use Rattle.gw_settle.specs.Keeps.{IsWell, absent}

-- the rows after so many rounds more
abbrev pub further : Parts → ℕ → TableRows → TableRows
further p zero rows = rows
further p (suc n) rows = round p (further p n rows)

-- rows are those after some rounds more
abbrev pub AreLater : Parts → TableRows → TableRows → Type 0
AreLater p rows later = (n : ℕ) × (later ≡ further p n rows)

-- rows are later than some, and as many of them are absent as of others
pub record HasJumped (p : Parts) (before like rows : TableRows) : Type 0 where
  pub later : AreLater p before rows
  pub absent : absent rows ≡ absent like

-- rows become others by a round that changes nothing; or by some of which the first lowers rows, and none adds one; or by some that add one
abbrev pub Advances : Parts → Change → TableRows → TableRows → Type 0
Advances p Same rows new = (change_in p rows ≡ Same) × (new ≡ round p rows)
Advances p Less rows new = (change_in p rows ≡ Less) × HasJumped p (round p rows) rows new
Advances p More rows new = AreLater p rows new × (absent new < absent rows)

-- AMOUNTS THAT FALL

-- by how much an amount is less in the next row
abbrev pub fall_of : Row → Row → ℕ → ℕ
fall_of row next e = units_of row e - units_of next e

-- what a number is once it has fallen so many times by as much as to the next
abbrev pub number_after : ℕ → ℕ → ℕ → ℕ
number_after n number next = number - n * (number - next)

-- what an amount is once it has fallen so many times by as much as to the next row
abbrev pub amount_after : ℕ → Row → Row → ℕ → ℕ
amount_after n row next e = number_after n (units_of row e) (units_of next e)

-- units by entity once they have fallen so many times by as much as to the next row
abbrev pub units_after : ℕ → List (ℕ × ℕ) → Row → List (ℕ × ℕ)
units_after n us next = keep (λ e. nonzero (number_after n (amount_of us e) (units_of next e))) us

-- a row once its amounts have fallen so many times
abbrev pub row_after : ℕ → Row → Row → Row
row_after n row next = record row { units = units_after n row.units next }

-- the same where there may be no row
abbrev pub place_after : ℕ → Option Row → Option Row → Option Row
place_after n (Some row) (Some next) = Some (row_after n row next)
place_after n (Some row) None = Some row
place_after n None next = None

-- rows of places once their amounts have fallen so many times
abbrev pub places_after : ℕ → List (Option Row) → List (Option Row) → List (Option Row)
places_after n [] nexts = []
places_after n (row ∷ rows) [] = place_after n row None ∷ places_after n rows []
places_after n (row ∷ rows) (next ∷ nexts) = place_after n row next ∷ places_after n rows nexts

-- the rows of a table once their amounts have fallen so many times
abbrev pub rows_after : ℕ → TableRows → TableRows → TableRows
rows_after n rows next = record { blocks = places_after n rows.blocks next.blocks; chains = places_after n rows.chains next.chains }

-- WHERE THEY FALL ON

-- a number falls by as much in a second round; if it falls, something is left of it n rounds on; and one more takes no more
pub record FallsAlike (n number next second last : ℕ) : Type 0 where
  pub again : number - next ≤ next - second
  pub left : next < number → 0 < number_after n number next
  pub still : number_after n number next ≤ last + (number - next)

-- an amount does, of an entity
abbrev pub AmountFallsOn : ℕ → Row → Row → Row → Row → ℕ → Type 0
AmountFallsOn n row next second last e = FallsAlike n (units_of row e) (units_of next e) (units_of second e) (units_of last e)

-- a row in two rounds, and in the one after n: nothing else changes, and each amount falls on
pub record FallsOn (n : ℕ) (row next second last : Row) : Type 0 where
  pub params : next.params ≡ row.params
  pub facilities : next.facilities ≡ row.facilities
  pub amounts : (e : ℕ) → AmountFallsOn n row next second last e

-- the same where there may be no row
abbrev pub PlaceFallsOn : ℕ → Option Row → Option Row → Option Row → Option Row → Type 0
PlaceFallsOn n None None second last = Unit {0}
PlaceFallsOn n None (Some next) second last = ⊥
PlaceFallsOn n (Some row) None second last = ⊥
PlaceFallsOn n (Some row) (Some next) None last = ⊥
PlaceFallsOn n (Some row) (Some next) (Some second) None = ⊥
PlaceFallsOn n (Some row) (Some next) (Some second) (Some last) = FallsOn n row next second last

-- the row at a place, from 0, if there is one
abbrev pub row_in : List (Option Row) → ℕ → Option Row
row_in rows i = option_flatten (slice_get rows i)

-- the rows of all places fall on
abbrev pub PlacesFallOn : ℕ → List (Option Row) → List (Option Row) → List (Option Row) → List (Option Row) → Type 0
PlacesFallOn n rows next second last = (i : ℕ) → PlaceFallsOn n (row_in rows i) (row_in next i) (row_in second i) (row_in last i)

-- RULES ON UNITS

-- the units that a block takes back: it asks that as many are sure to be held
abbrev pub units_asked : Block → Option Units
units_asked (blocks.Leave u) = Some u
units_asked (blocks.Depart u) = Some u
units_asked block = None

-- a row holds so many units, or another one doesn't
abbrev pub IsDecided : Units → Option Row → Row → Type 0
IsDecided u near last = (u.number ≤ units_of last u.entity) ⊎ IsSomeAnd near (λ row. units_of row u.entity < u.number)

-- a block's rule on units holds in its last row, or not in its near one
abbrev pub IsBlockDecided : Block → Option Row → Option Row → Type 0
IsBlockDecided block near last = (u : Units) (row : Row) → units_asked block ≡ Some u → last ≡ Some row → IsDecided u near row

-- and that of each block
abbrev pub AreDecided : Parts → TableRows → TableRows → Type 0
AreDecided p near last = (b : ℕ) (block : Block) → block_at p.blocks b ≡ Some block
    → IsBlockDecided block (as_table p near (targets.Block b)) (as_table p last (targets.Block b))

-- A JUMP

-- what is tested of a jump over n rounds: two rounds, and the one after the jump, lower amounts alone, and alike; and no rule on units breaks on the way
pub record MayJump (p : Parts) (n : ℕ) (near next second last : TableRows) : Type 0 where
  pub blocks : PlacesFallOn n near.blocks next.blocks second.blocks last.blocks
  pub chains : PlacesFallOn n near.chains next.chains second.chains last.chains
  pub decided : AreDecided p near last

-- where rows may jump over n rounds, and one more is made, they are those after n + 1 rounds
abbrev pub JumpsAreRounds : Type 0
JumpsAreRounds = (p : Parts) (k n : ℕ) → IsWell p → 0 < n →
    MayJump p n (rounds p k) (rounds p (suc k)) (rounds p (suc (suc k))) (round p (rows_after n (rounds p k) (rounds p (suc k)))) →
    round p (rows_after n (rounds p k) (rounds p (suc k))) ≡ further p (suc n) (rounds p k)
