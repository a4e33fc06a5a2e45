-- What an object and a table keep at each block where flow passes, said apart from the order of the checks; and what fitting is.
use Rattle.std.specs.Prelude.{◌≡◌, ◌↔◌, ℕ, Some, IsSome, Bool, true, false, not, All, IsSomeAnd, Decides}
use Rattle.gw_object.specs.declared.blocks.Block.{Block}
use Rattle.gw_object.specs.declared.blocks.Block.TheVariants as blocks
use Rattle.gw_object.specs.declared.parts.Parts.{Parts}
use Rattle.gw_rules.specs.Kinds.{block_at, is_generate}
use Rattle.gw_rules.specs.declared.edges.Target.TheVariants as targets
use Rattle.gw_rules.specs.Rows.{Row, fits, Fits}
use Rattle.gw_rules.specs.Blocks.{Table, replaces, rules, edges}
use Rattle.gw_rules.specs.Flow.{FlowPasses}

-- a transaction in this state may enter the block of number b and go on from it: each rule holds, and where each edge
-- leads the table has a row that the edge's state fits
pub record MayPass (p : Parts) (table : Table) (b : ℕ) (block : Block) (state : Row) : Type 0 where
  pub each_rule : All (λ rule. rule.holds ≡ true) (rules p block state)
  pub each_edge : All (λ edge. IsSomeAnd (table edge.target) (Fits edge.state)) (edges p table b block state)

-- flow: each GENERATE has a row, and a transaction in the state of a block's row may pass the block
pub record FlowHolds (p : Parts) (table : Table) : Type 0 where
  pub arrivals : (b : ℕ) → is_generate (block_at p.blocks b) ≡ true → IsSome (table (targets.Block b))
  pub each_row : (b : ℕ) (block : Block) (row : Row) → block_at p.blocks b ≡ Some block → table (targets.Block b) ≡ Some row → MayPass p table b block row

-- flow passes exactly where it holds at each block
abbrev pub FlowPassesAtEachBlock : Type 0
FlowPassesAtEachBlock = (p : Parts) (table : Table) → FlowPasses p table ↔ FlowHolds p table

-- the test of fitting decides it
abbrev pub FitsIsDecided : Type 0
FitsIsDecided = (state row : Row) → Decides (fits state row) (Fits state row)

-- each state fits itself
abbrev pub FitsItself : Type 0
FitsItself = (state : Row) → Fits state state

-- what fits a row fits what the row fits
abbrev pub FitsOn : Type 0
FitsOn = (state row other : Row) → Fits state row → Fits row other → Fits state other

-- whether a block forbids what a state may know and a row that it fits may not: GENERATE that anything is set or held,
-- and ASSIGN by addition or subtraction that its parameter is a return
abbrev pub forbids : Block → Bool
forbids (blocks.Generate g) = true
forbids (blocks.Assign a) = not (replaces a.mode)
forbids block = false

-- a transaction that fits a row may pass each block that the row may pass, but those that forbid something
abbrev pub FittingStatesPass : Type 0
FittingStatesPass =
    (p : Parts) (table : Table) (b : ℕ) (block : Block) (state row : Row) →
    forbids block ≡ false → Fits state row → MayPass p table b block row → MayPass p table b block state
