-- Which blocks get a slope on a parameter, where it is tried whether that helps: LOOPs on it, and what leads to one at once.
use Rattle.std.specs.Prelude.{◌≡◌, ℕ, zero, suc, List, map, length, slice_index_or, Contains, Option, Some, None, Bool, true, false, ◌==◌, ◌&&◌, ◌||◌}
use Rattle.std.specs.List.{list_any}
use Rattle.gw_object.specs.declared.blocks.Block.{Block}
use Rattle.gw_object.specs.declared.blocks.Block.TheVariants as blocks
use Rattle.gw_object.specs.declared.parts.Parts.{Parts}
use Rattle.gw_rules.specs.Blocks.{returns_read}
use Rattle.gw_rules.specs.Exits.{exits_with, leads_to}
use Rattle.gw_rules.specs.Flow.{own_row}
use Rattle.gw_rules.specs.Kinds.{block_at}
use Rattle.gw_rules.specs.Rows.{Row}
use Rattle.gw_rules.specs.Weights.{goes_at_once, treats}
use Rattle.gw_rules.specs.declared.slopes.Treatment.{Treatment}
use Rattle.gw_rules.specs.declared.slopes.Treatment.TheVariants.{Keeps, SetsTo, Lowers, RunsOut, Changes}
use Rattle.gw_rules.specs.declared.ways.Exit.{Exit}

-- whether a block is a LOOP on a parameter
abbrev pub counts : ℕ → Block → Bool
counts q (blocks.Loop l) = l.parameter == q
counts q block = false

-- whether a slope of the next block asks for one of a block that does this to its parameter: not where that is set to a constant, nor where it has come to 0
abbrev pub asks_own : Treatment → Bool
asks_own Keeps = true
asks_own (SetsTo value) = false
asks_own Lowers = true
asks_own RunsOut = false
asks_own Changes = true

-- whether somebody goes along an exit of a block at once, and a slope on a parameter there asks for one here
abbrev pub asks_back : Block → ℕ → Exit → Bool
asks_back block q exit = goes_at_once exit && asks_own (treats block exit.way q)

-- the blocks that get a slope on parameter q, among blocks with rows: each LOOP on it, and each from which somebody
-- goes at once to one that gets it, where that asks for one
pub data Sloped (bs : List Block) (rows : ℕ → Option Row) (q : ℕ) : ℕ → Type 0 where
  loops : (b : ℕ) (block : Block) (row : Row) → block_at bs b ≡ Some block → rows b ≡ Some row → counts q block ≡ true → Sloped bs rows q b
  leads : (b : ℕ) (block : Block) (row : Row) (exit : Exit) → block_at bs b ≡ Some block → rows b ≡ Some row
      → Contains (exits_with (returns_read block row) block) exit → asks_back block q exit ≡ true
      → Sloped bs rows q (leads_to b exit.way) → Sloped bs rows q b

-- MARKS

-- whether the block of a number is marked; blocks count from 1
abbrev pub marked_at : List Bool → ℕ → Bool
marked_at marks zero = false
marked_at marks (suc i) = slice_index_or marks i false

-- these marks are on those blocks
pub record AreMarks (p : Parts) (q : ℕ) (marks : List Bool) : Type 0 where
  pub many : length marks ≡ length p.blocks
  pub sound : (b : ℕ) → marked_at marks b ≡ true → Sloped p.blocks (own_row p) q b
  pub whole : (b : ℕ) → Sloped p.blocks (own_row p) q b → marked_at marks b ≡ true

-- whether an exit of the block of number b leads to a marked one that asks it for a slope
abbrev pub leads_back : List Bool → ℕ → Block → ℕ → Exit → Bool
leads_back marks b block q exit = asks_back block q exit && marked_at marks (leads_to b exit.way)

-- whether the block of number b is a LOOP on the parameter, or leads to a marked one in its row
abbrev pub asks_in : List Bool → ℕ → ℕ → Block → Row → Bool
asks_in marks q b block row = counts q block || list_any (leads_back marks b block q) (exits_with (returns_read block row) block)

-- in a row that it may have
abbrev pub asks_at : List Bool → ℕ → ℕ → Block → Option Row → Bool
asks_at marks q b block None = false
asks_at marks q b block (Some row) = asks_in marks q b block row

-- the same of a block that may be there
abbrev pub asks : Parts → List Bool → ℕ → ℕ → Option Block → Bool
asks p marks q b None = false
asks p marks q b (Some block) = asks_at marks q b block (own_row p b)

-- SLOPES

-- the slope of a block, by its mark
abbrev pub slope_by : ℕ → ℕ → Bool → Option (ℕ × ℕ)
slope_by q per true = Some (q, per)
slope_by q per false = None

-- these slopes are the ones on parameter q: as steep as there are blocks, on the blocks that get one
pub record AreSlopes (p : Parts) (q : ℕ) (slopes : List (Option (ℕ × ℕ))) : Type 0 where
  pub marks : List Bool
  pub are : AreMarks p q marks
  pub is : slopes ≡ map (slope_by q (length p.blocks)) marks
