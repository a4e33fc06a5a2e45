-- What a weight certificate says, apart from the order of the checks.
use Rattle.std.specs.Prelude.{◌≡◌, ◌↔◌, ℕ, ◌+◌, ◌*◌, ◌≤◌, Option, Some, None, IsSome, IfSome, IsTrue, All}
use Rattle.gw_object.specs.declared.blocks.Generate.{Generate}
use Rattle.gw_object.specs.declared.blocks.Block.{Block}
use Rattle.gw_object.specs.declared.blocks.Block.TheVariants as blocks
use Rattle.gw_object.specs.declared.parts.Parts.{Parts}
use Rattle.gw_object.specs.Grammar.{HasSpelling}
use Rattle.gw_object.specs.declared.parts.Kind.TheVariants.{Chain}
use Rattle.gw_rules.specs.Sources.{kind_at}
use Rattle.gw_rules.specs.Exits.{leads_to, exits_with}
use Rattle.gw_rules.specs.declared.ways.Way.{Way}
use Rattle.gw_rules.specs.declared.ways.Who.{Who}
use Rattle.gw_rules.specs.declared.ways.Who.TheVariants.{Itself, Copies}
use Rattle.gw_rules.specs.Kinds.{block_at}
use Rattle.gw_rules.specs.declared.ways.Exit.{Exit}
use Rattle.gw_rules.specs.declared.edges.Target.TheVariants as targets
use Rattle.gw_rules.specs.Rows.{Num, Row, kind_of}
use Rattle.gw_rules.specs.Blocks.{returns_read}
use Rattle.gw_rules.specs.Flow.{own_table, own_row}
use Rattle.gw_rules.specs.declared.slopes.Treatment.{Treatment}
use Rattle.gw_rules.specs.declared.slopes.Treatment.TheVariants.{Keeps, SetsTo, Lowers, RunsOut, Changes}
use Rattle.gw_rules.specs.Weights.{weight_at, chain_weight, slope_at, above, per_of, treats, goes_at_once, is_bounded, WeightsPass}

-- a block's slope covers another one: it is on the same parameter, and at least as steep
abbrev pub Covers : Option (ℕ × ℕ) → ℕ × ℕ → Type 0
Covers None slope = ⊥
Covers (Some own) slope = (own.0 ≡ slope.0) × (slope.1 ≤ own.1)

-- the block of number b pays for the entry and for a next block that weighs so much and has this slope, by what it does to the slope's parameter
abbrev pub PaysSlope : Parts → ℕ → ℕ → ℕ × ℕ → Treatment → Type 0
PaysSlope p b there slope Keeps = (1 + there ≤ weight_at p.weights b) × Covers (slope_at p.slopes b) slope
PaysSlope p b there slope (SetsTo value) = 1 + there + slope.1 * above value ≤ weight_at p.weights b
PaysSlope p b there slope Lowers = (1 + there ≤ weight_at p.weights b + slope.1) × Covers (slope_at p.slopes b) slope
PaysSlope p b there slope RunsOut = 1 + there ≤ weight_at p.weights b
PaysSlope p b there slope Changes = ⊥

-- and for one that has a slope or none
abbrev pub PaysTo : Parts → ℕ → Block → Way → ℕ → Option (ℕ × ℕ) → Type 0
PaysTo p b block way there None = 1 + there ≤ weight_at p.weights b
PaysTo p b block way there (Some slope) = PaysSlope p b there slope (treats block way slope.0)

-- a slope is on the parameter of another one; one that is flat is on each
abbrev pub IsOn : Option (ℕ × ℕ) → Option (ℕ × ℕ) → Type 0
IsOn own None = Unit {0}
IsOn None (Some slope) = ⊥
IsOn (Some own) (Some slope) = own.0 ≡ slope.0

-- the block of number b pays for the entry, for the block after it, and for so many copies at another one
pub record PaysCopies (p : Parts) (b copies target : ℕ) : Type 0 where
  pub base : 1 + weight_at p.weights (b + 1) + copies * weight_at p.weights target ≤ weight_at p.weights b
  pub fall_on : IsOn (slope_at p.slopes b) (slope_at p.slopes (b + 1))
  pub target_on : IsOn (slope_at p.slopes b) (slope_at p.slopes target)
  pub steep : per_of (slope_at p.slopes (b + 1)) + copies * per_of (slope_at p.slopes target) ≤ per_of (slope_at p.slopes b)

-- the block of number b pays for who goes along a way of it
abbrev pub PaysWay : Parts → ℕ → Block → Way → Who → Type 0
PaysWay p b block way Itself = PaysTo p b block way (weight_at p.weights (leads_to b way)) (slope_at p.slopes (leads_to b way))
PaysWay p b block way (Copies copies) = PaysCopies p b copies (leads_to b way)

-- the block of number b pays for the entry and for where an exit of it leads, if somebody goes along it at once
abbrev pub PaysExit : Parts → ℕ → Block → Exit → Type 0
PaysExit p b block exit = IsTrue (goes_at_once exit) → PaysWay p b block exit.way exit.who

-- a LINK, the block of number b, pays for the entry and for its user chain, and the user chain of an UNLINK, where it
-- has a row, for where its members go; there is no slope there
abbrev pub PaysChain : Parts → ℕ → Block → Type 0
PaysChain p b (blocks.Link l) = 1 + chain_weight p l.chain ≤ weight_at p.weights b
PaysChain p b (blocks.Unlink u) = (slope_at p.slopes u.target ≡ None)
    × (IsSome (own_table p (targets.Chain u.chain)) → weight_at p.weights u.target ≤ chain_weight p u.chain)
PaysChain p b block = Unit {0}

-- the block of number b pays for all that follows at once from an entry in a row
pub record Pays (p : Parts) (b : ℕ) (block : Block) (row : Row) : Type 0 where
  pub slope : IfSome (slope_at p.slopes b) (λ slope. kind_of row slope.0 ≡ Some Num)
  pub chain : PaysChain p b block
  pub exits : All (PaysExit p b block) (exits_with (returns_read block row) block)

-- a weighted object: each block and each user chain weighs 1 or more, the arrivals of each GENERATE are bounded in a
-- clock moment, and each block with a row pays for what follows from an entry
pub record Weighted (p : Parts) : Type 0 where
  pub least : (b : ℕ) (block : Block) → block_at p.blocks b ≡ Some block → 1 ≤ weight_at p.weights b
  pub chains : (c : ℕ) → kind_at p.entities c ≡ Some Chain → 1 ≤ chain_weight p c
  pub arrivals : (b : ℕ) (g : Generate) → block_at p.blocks b ≡ Some (blocks.Generate g) → IsTrue (is_bounded g)
  pub each_row : (b : ℕ) (block : Block) (row : Row) → block_at p.blocks b ≡ Some block → own_row p b ≡ Some row → Pays p b block row

-- weights pass exactly where an object is weighted
abbrev pub WeightsPassWhereWeighted : Type 0
WeightsPassWhereWeighted = (p : Parts) → HasSpelling p → WeightsPass p ↔ Weighted p
