-- Flow: each block's rules hold in its row of a state table, and what is known of a transaction where it goes on fits the row there.
use Rattle.std.specs.Prelude.{◌≡◌, ◌⊎◌, ℕ, zero, suc, List, ◌++◌, map, Option, Some, None, Result, Ok, Err, Bool, false, slice_get, option_map}
use Rattle.std.specs.Option.{option_flatten}
use Rattle.gw_object.specs.Reading.{out_of_memory}
use Rattle.gw_object.specs.declared.fault.Fault.{Fault}
use Rattle.gw_object.specs.declared.fault.Place.{Place}
use Rattle.gw_object.specs.declared.fault.Place.TheVariants as places
use Rattle.gw_object.specs.declared.blocks.Block.{Block}
use Rattle.gw_object.specs.declared.parts.Entity.{Entity}
use Rattle.gw_object.specs.declared.parts.Parts.{Parts}
use Rattle.gw_rules.specs.Checks.{Check, check, first_broken, checks_by_number, Finds}
use Rattle.gw_rules.specs.Kinds.{for_chain}
use Rattle.gw_rules.specs.declared.edges.Target.{Target}
use Rattle.gw_rules.specs.declared.edges.Target.TheVariants as targets
use Rattle.gw_rules.specs.Blocks.{FlowEdge, Table, Rule, rules, rules_without_row, edges}
use Rattle.gw_rules.specs.Rows.{Row, fits}
use Rattle.gw_rules.specs.Seen.{row_meaning}

-- TABLES

-- the row of the block of a number; blocks count from 1
abbrev pub row_at : {X : Type 0} → List (Option X) → ℕ → Option X
row_at rows zero = None
row_at rows (suc i) = option_flatten (slice_get rows i)

-- the table with these rows of the blocks, and these of those entities that are user chains, in order
abbrev pub table_of : List (Option Row) → List Entity → List (Option Row) → Table
table_of rows entities chain_rows (targets.Block b) = row_at rows b
table_of rows entities chain_rows (targets.Chain e) = for_chain entities chain_rows e

-- an object's own table
abbrev pub own_table : Parts → Table
own_table p = table_of (map (option_map (row_meaning p.returns)) p.states) p.entities (map (option_map (row_meaning p.returns)) p.chain_states)

-- the row of the block of a number in an object's own table
abbrev pub own_row : Parts → ℕ → Option Row
own_row p b = own_table p (targets.Block b)

-- CHECKS

-- the place of an edge of the block of number b; one to a user chain has that of an edge from the block to itself
abbrev pub edge_place : ℕ → Target → Place
edge_place b (targets.Block c) = places.Edge b c
edge_place b (targets.Chain e) = places.Edge b b

-- whether there is a row, and a state fits it
abbrev pub fits_row : Row → Option Row → Bool
fits_row state None = false
fits_row state (Some row) = fits state row

-- a rule of the block of number b as a check
abbrev pub rule_check : ℕ → Rule → Check
rule_check b rule = check rule.code (places.Block b) rule.holds

-- an edge of the block of number b as a check: where it leads the table has a row, and its state fits it
abbrev pub edge_check : Table → ℕ → FlowEdge → Check
edge_check table b edge = check edge.code (edge_place b edge.target) (fits_row edge.state (table edge.target))

-- the rules of the block of number b in a state
abbrev pub rule_checks : Parts → ℕ → Block → Row → List Check
rule_checks p b block state = map (rule_check b) (rules p block state)

-- the edges of the block of number b in a state
abbrev pub edge_checks : Parts → Table → ℕ → Block → Row → List Check
edge_checks p table b block state = map (edge_check table b) (edges p table b block state)

-- the checks of the block of number b: its rules and then its edges in its row, or the rules of one without a row
abbrev pub checks_in : Parts → Table → ℕ → Block → Option Row → List Check
checks_in p table b block None = map (rule_check b) (rules_without_row p block)
checks_in p table b block (Some row) = rule_checks p b block row ++ edge_checks p table b block row

-- the checks of the block of number b in its row of a table, if it has one
abbrev pub checks_at : Parts → Table → ℕ → Block → List Check
checks_at p table b block = checks_in p table b block (table (targets.Block b))

-- every check of flow of an object and a table, in order
unfoldable pub flow_checks : Parts → Table → List Check
flow_checks p table = checks_by_number (checks_at p table) 1 p.blocks

-- flow holds of an object and a table: no check of it is broken
abbrev pub FlowPasses : Parts → Table → Type 0
FlowPasses p table = first_broken (flow_checks p table) ≡ None

-- WHAT IS ANSWERED

-- a test found the first broken of these checks, or that there is none, unless memory ran out
abbrev pub MayFind : {X : Type 0} → Result X Fault → List Check → Type 0
MayFind (Ok x) cs = first_broken cs ≡ None
MayFind (Err fault) cs = (first_broken cs ≡ Some fault) ⊎ (fault ≡ out_of_memory)

-- a test found the first of these rules of the block of number b that doesn't hold, or that each holds
abbrev pub FindsRule : {X : Type 0} → Result X Fault → ℕ → List Rule → Type 0
FindsRule result b rules = Finds result (map (rule_check b) rules)
