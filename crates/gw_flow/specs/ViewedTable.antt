-- The state table that flow works with.
use Rattle.std.specs.Prelude.{◌≡◌, ℕ, List, Some, map, Result}
use Rattle.gw_object.specs.declared.fault.Fault.{Fault}
use Rattle.gw_object.specs.declared.parts.Parts.{Parts}
use Rattle.gw_object.specs.declared.blocks.Block.{Block}
use Rattle.gw_rules.specs.Checks.{Check, Finds}
use Rattle.gw_flow.specs.declared.abstract_state.StateParts.{StateParts}
use Rattle.gw_rules.specs.Blocks.{FlowEdge, Table}
use Rattle.gw_flow.specs.declared.table.StateTable.{StateTable}
use Rattle.gw_rules.specs.declared.edges.Target.TheVariants as targets
use Rattle.gw_rules.specs.Rows.{Row, HasRoom}
use Rattle.gw_flow.specs.Known.{known_row, known_rows}
use Rattle.gw_rules.specs.Flow.{table_of, edge_check, checks_in, checks_at, MayFind}

-- the rows of the blocks, and of the entities that are user chains, as one table
abbrev pub table_viewed : StateTable → Table
table_viewed t = table_of (known_rows t.returns.now t.blocks.now) t.entities.now (known_rows t.returns.now t.chains.now)

-- each row of a block has room
abbrev pub HaveRoom : Table → Type 0
HaveRoom table = (b : ℕ) (row : Row) → table (targets.Block b) ≡ Some row → HasRoom row

-- the checks of edges of the block of number b by a table: of those that there are with the table in a state
abbrev pub fit_checks : StateTable → ℕ → (Table → Row → List FlowEdge) → StateParts → List Check
fit_checks t b es s = map (edge_check (table_viewed t) b) (es (table_viewed t) (known_row t.returns.now s))

-- a test found the first of these edges whose state doesn't fit, or that each fits
abbrev pub FindsMisfit : StateTable → ℕ → (Table → Row → List FlowEdge) → StateParts → Result (Unit {0}) Fault → Type 0
FindsMisfit t b es s result = Finds result (fit_checks t b es s)

-- so it is unless memory ran out
abbrev pub MayFindMisfit : StateTable → ℕ → (Table → Row → List FlowEdge) → StateParts → Result (Unit {0}) Fault → Type 0
MayFindMisfit t b es s result = MayFind result (fit_checks t b es s)

-- the checks of the block of number b in a state by a table: its rules and then its edges
abbrev pub checks_by : Parts → StateTable → ℕ → Block → StateParts → List Check
checks_by p t b block s = checks_in p (table_viewed t) b block (Some (known_row t.returns.now s))

-- and in its row of the table, if it has one
abbrev pub checks_in_row : Parts → StateTable → ℕ → Block → List Check
checks_in_row p t b block = checks_at p (table_viewed t) b block
