-- The edges of TRANSFERs in parameter mode, said apart from the block's number: where the return leads that a parameter holds.
use Rattle.std.specs.Prelude.{◌≡◌, ℕ, ◌+◌, List, Option, Some, option_map, true, All, IsSomeAnd}
use Rattle.gw_object.specs.declared.blocks.Block.TheVariants as blocks
use Rattle.gw_object.specs.declared.parts.Parts.{Parts}
use Rattle.gw_object.specs.declared.parts.ReturnRow.{ReturnRow}
use Rattle.gw_flow.specs.declared.abstract_state.StateParts.{StateParts}
use Rattle.gw_rules.specs.declared.edges.Target.TheVariants as targets
use Rattle.gw_flow.specs.declared.table.StateTable.{StateTable}
use Rattle.gw_flow.specs.declared.return_edges.Return.{Return}
use Rattle.gw_rules.specs.Checks.{Check}
use Rattle.gw_rules.specs.Rows.{Row, ParamKind, kind_of, is_return, return_blocks, Fits}
use Rattle.gw_rules.specs.Seen.{kind_seen}
use Rattle.gw_flow.specs.Known.{known_row}
use Rattle.gw_rules.specs.Blocks.{Table}
use Rattle.gw_flow.specs.ViewedTable.{table_viewed, checks_by}

-- what a parameter holds is a return, and after each of its blocks there is a row that the state fits
pub record MayReturn (table : Table) (state : Row) (kind : ParamKind) : Type 0 where
  pub by_return : is_return (Some kind) ≡ true
  pub each_block : All (λ b. IsSomeAnd (table (targets.Block (b + 1))) (Fits state)) (return_blocks (Some kind))

-- a transaction that goes by this may pass a TRANSFER in parameter mode
abbrev pub PassesBy : StateTable → Return → Type 0
PassesBy t r = MayReturn (table_viewed t) (known_row t.returns.now r.state.now) (kind_seen t.returns.now r.kind)

-- by any return rows this is what a parameter holds in a state, if it is set
abbrev pub IsHeld : ℕ → StateParts → Option Return → Type 0
IsHeld q s held = (rows : List ReturnRow) → option_map (λ (r : Return). kind_seen rows r.kind) held ≡ kind_of (known_row rows s) q

-- this is what a parameter holds, by the return rows of a table
abbrev pub GoesBy : StateTable → ℕ → Return → Type 0
GoesBy t q r = kind_of (known_row t.returns.now r.state.now) q ≡ Some (kind_seen t.returns.now r.kind)

-- the checks of a TRANSFER in parameter mode, the block of number b, for a transaction that goes by this
abbrev pub way_back_checks : Parts → StateTable → ℕ → ℕ → Return → List Check
way_back_checks p t b q r = checks_by p t b (blocks.TransferByParameter q) r.state.now
