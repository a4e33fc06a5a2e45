-- What is known of those who wait on delay lists: which blocks they want to enter.
use Rattle.std.specs.Prelude.{◌≡◌, ◌≢◌, ℕ, ◌+◌, ◌<◌, ◌≤◌, ◌⊎◌, ◌==◌, if◌then◌else◌, nat_le, List, [], ◌∷◌, map, length, sum_by, Option, None, Some}
use Rattle.gw_object.specs.declared.blocks.Block.{Block}
use Rattle.gw_object.specs.declared.blocks.Units.{Units}
use Rattle.gw_num.specs.Table.{at}
use Rattle.gw_rules.specs.Kinds.{block_at}
use Rattle.gw_transactions.specs.Transactions.{LiveTransaction}
use Rattle.gw_step.specs.Blocks.{units_asked}
use Rattle.gw_step.specs.Residence.{occurrences}
use Rattle.gw_step.specs.State.{State, delay_list, with_one_more_at}
use Rattle.gw_machine.specs.declared.wants.Want.{Want}
use Rattle.gw_machine.specs.declared.least.Least.{Least}
use Rattle.gw_machine.specs.declared.least.Least.TheVariants.{Unknown, Nobody, Units as Asks}

-- WANTS

-- nobody's want
abbrev pub nobody : Want
nobody = record { block = 0; waiting = 0; entries = 0 }

-- how many a want counts for a block
abbrev pub counted_at : ℕ → Want → ℕ
counted_at b w = if w.block == b then w.waiting else 0

-- how many want to enter a block
abbrev pub want_count : ℕ → List Want → ℕ
want_count b ws = sum_by (counted_at b) ws

-- the want at a place is for this block, and counts so many or more
pub record IsAt (b n i : ℕ) (ws : List Want) : Type 0 where
  pub within : i < length ws
  pub block : (at nobody ws i).block ≡ b
  pub waiting : n ≤ (at nobody ws i).waiting

-- each want for this block counts fewer
abbrev pub AllCountFewer : ℕ → ℕ → List Want → Type 0
AllCountFewer b n ws = (i : ℕ) → i < length ws → (at nobody ws i).block ≡ b → (at nobody ws i).waiting < n

-- a want was told of all entries of its block, if anybody wants to enter that
abbrev pub IsTold : List ℕ → Want → Type 0
IsTold entries w = 0 < w.waiting → w.entries ≡ at 0 entries w.block

-- each want was
abbrev pub AreTold : List ℕ → List Want → Type 0
AreTold entries ws = (i : ℕ) → IsTold entries (at nobody ws i)

-- no want was told of more entries than there are
abbrev pub ArePast : List ℕ → List Want → Type 0
ArePast entries ws = (i : ℕ) → (at nobody ws i).entries ≤ at 0 entries (at nobody ws i).block

-- COUNTING

-- a want that counts one more was told of the entries that it was told of before, or of so many where it counted nobody
abbrev pub KeepsEntries : ℕ → Want → Want → Type 0
KeepsEntries entries old new =
    (0 < old.waiting → new.entries ≡ old.entries) × ((new.entries ≡ old.entries) ⊎ (new.entries ≡ entries))

-- one more is counted who wants to enter a block, which has so many entries
pub record CountsNewcomer (block entries : ℕ) (old new : List Want) : Type 0 where
  pub wanting : (b : ℕ) → want_count b new ≡ want_count b old + (if block == b then 1 else 0)
  pub told : (es : List ℕ) → at 0 es block ≡ entries → AreTold es new → AreTold es old
  pub past : (es : List ℕ) → at 0 es block ≡ entries → ArePast es old → ArePast es new

-- one fewer is
pub record CountsLeaver (block entries : ℕ) (old new : List Want) : Type 0 where
  pub wanting : (b : ℕ) → want_count b new + (if block == b then 1 else 0) ≡ want_count b old
  pub told : (es : List ℕ) → at 0 es block ≡ entries → AreTold es new → AreTold es old
  pub past : (es : List ℕ) → at 0 es block ≡ entries → ArePast es old → ArePast es new

-- one who isn't counted enters a block, which had so many entries before
pub record CountsEntry (block entries : ℕ) (old new : List Want) : Type 0 where
  pub many : length new ≡ length old
  pub wanting : (b : ℕ) → want_count b new ≡ want_count b old
  pub told : (es : List ℕ) → at 0 es block ≡ entries → ArePast es old → AreTold (with_one_more_at block es) new → AreTold es old
  pub past : (es : List ℕ) → at 0 es block ≡ entries → ArePast es old → ArePast (with_one_more_at block es) new

-- one joins a list, and is counted there if anything is known of it, and stays so
abbrev pub JoinsIfKnown : ℕ → ℕ → List Want → List Want → Type 0
JoinsIfKnown block entries [] new = new ≡ []
JoinsIfKnown block entries (w ∷ ws) new = (new ≡ []) ⊎ CountsNewcomer block entries (w ∷ ws) new

-- one leaves a list, of which all that is known stays so, or nothing is known any longer
abbrev pub LeavesIfKnown : ℕ → ℕ → List Want → List Want → Type 0
LeavesIfKnown block entries old new = (new ≡ []) ⊎ CountsLeaver block entries old new

-- the lists of all other entities stay as they were
abbrev pub KeepsOthers : ℕ → List (List Want) → List (List Want) → Type 0
KeepsOthers e old new = (k : ℕ) → k ≢ e → at [] new k ≡ at [] old k

-- WHAT IS KNOWN

-- the next block of a transaction, if it is there
abbrev pub next_in : Option LiveTransaction → ℕ
next_in None = 0
next_in (Some t) = t.attributes.next

-- the same, by its number
abbrev pub next_of : List (Option LiveTransaction) → ℕ → ℕ
next_of ts n = next_in (at None ts n)

-- the next blocks of those who wait for an entity, in their order
abbrev pub nexts : ℕ → State → List ℕ
nexts e s = map (next_of s.transactions) (delay_list e s)

-- the wants count those who wait for an entity, as soon as they were told of all entries
pub record IsCounted (ws : List Want) (e : ℕ) (s : State) : Type 0 where
  pub past : ArePast s.entries ws
  pub counted : AreTold s.entries ws → (b : ℕ) → want_count b ws ≡ occurrences b (nexts e s)

-- what is known of a list is so
abbrev pub IsKnown : List Want → ℕ → State → Type 0
IsKnown [] e s = Unit {0}
IsKnown (w ∷ ws) e s = IsCounted (w ∷ ws) e s

-- and so it is of all lists
abbrev pub AreKnown : List (List Want) → State → Type 0
AreKnown known s = (e : ℕ) → IsKnown (at [] known e) e s

-- THE LEAST

-- somebody wants to enter a block that asks for these units of a storage, where so many want to enter each block
pub record IsWanted (bs : List Block) (e : ℕ) (many : ℕ → ℕ) (b : ℕ) (u : Units) : Type 0 where
  pub some : 0 < many b
  pub asks : units_asked e (block_at bs b) ≡ Some u

-- these are the least units of a storage that anybody wants, where so many want to enter each block; or it isn't known
abbrev pub IsLeast : List Block → ℕ → (ℕ → ℕ) → Least → Type 0
IsLeast bs e many Unknown = Unit {0}
IsLeast bs e many Nobody = (b : ℕ) (u : Units) → IsWanted bs e many b u → ⊥
IsLeast bs e many (Asks least) =
    ((b : ℕ) (u : Units) → IsWanted bs e many b u → least ≤ u.number)
    × ((b : ℕ) × (u : Units) × IsWanted bs e many b u × (u.number ≡ least))

-- the lesser of the least so far and of what a block asks
abbrev pub lesser : Least → Option Units → Least
lesser least None = least
lesser (Asks least) (Some u) = Asks (if nat_le least u.number then least else u.number)
lesser Unknown (Some u) = Asks u.number
lesser Nobody (Some u) = Asks u.number
