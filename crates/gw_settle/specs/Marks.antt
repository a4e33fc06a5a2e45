-- Marks of the blocks that are to be visited: each other one would change nothing.
use Rattle.std.specs.Prelude.{◌≡◌, ◌⊎◌, ℕ, zero, suc, List, length, get_or, set, Some, Bool, true, false}
use Rattle.gw_object.specs.declared.blocks.Block.{Block}
use Rattle.gw_object.specs.declared.blocks.Block.TheVariants as blocks
use Rattle.gw_object.specs.declared.blocks.Unlink.{Unlink}
use Rattle.gw_object.specs.declared.parts.Parts.{Parts}
use Rattle.gw_rules.specs.Kinds.{block_at}
use Rattle.gw_rules.specs.Blocks.{Table}
use Rattle.gw_settle.specs.declared.table.Change.{Change}
use Rattle.gw_settle.specs.declared.table.Change.TheVariants.{Same, Less, More}
use Rattle.gw_settle.specs.Rounds.{TableRows, as_table, sends}
use Rattle.gw_settle.specs.Keeps.{IsIdleAt}

-- whether the block of a number is marked, by marks of the blocks in order
abbrev pub is_marked : List Bool → ℕ → Bool
is_marked marks zero = false
is_marked marks (suc i) = get_or marks i false

-- marks with that of the block at a place, from 0, if its row has changed
abbrev pub with_mark : Change → ℕ → List Bool → List Bool
with_mark Same i marks = marks
with_mark Less i marks = set marks i true
with_mark More i marks = set marks i true

-- no mark is taken away
pub record MarksGrow (before marks : List Bool) : Type 0 where
  pub length : length marks ≡ length before
  pub stay : (b : ℕ) → is_marked before b ≡ true → is_marked marks b ≡ true

-- marks with those of all blocks that are UNLINKs
pub record UnlinksMarked (bs : List Block) (before marks : List Bool) : Type 0 where
  pub grow : MarksGrow before marks
  pub marked : (b : ℕ) (u : Unlink) → block_at bs b ≡ Some (blocks.Unlink u) → is_marked marks b ≡ true

-- nothing has changed, and no mark has; or each UNLINK is marked
abbrev pub UnlinksFollow : List Block → List Bool → List Bool → Change → Type 0
UnlinksFollow bs before marks change = ((change ≡ Same) × (marks ≡ before)) ⊎ UnlinksMarked bs before marks

-- each block is marked, or sends nothing that changes these rows
pub record MarksSuffice (p : Parts) (marks : List Bool) (rows : TableRows) : Type 0 where
  pub length : length marks ≡ length p.blocks
  pub each : (b : ℕ) → (is_marked marks b ≡ true) ⊎ IsIdleAt p (as_table p rows) b

-- each block is marked then, or it wasn't before, and sends in one table what it sends in the other
pub record MarksFollow (p : Parts) (before marks : List Bool) (s t : Table) : Type 0 where
  pub length : length marks ≡ length before
  pub each : (b : ℕ) → (is_marked marks b ≡ true) ⊎ ((is_marked before b ≡ false) × (sends p t b ≡ sends p s b))
