-- A state table as an object has it.
use Rattle.std.specs.Prelude.{◌≡◌, ◌⊎◌, ℕ, ◌≤◌, ◌<◌, List, length, Option, All, IfSome}
use Rattle.gw_object.specs.Limits.{greatest_units}
use Rattle.gw_object.specs.declared.parts.TableKind.{TableKind}
use Rattle.gw_object.specs.declared.parts.TableParameter.{TableParameter}
use Rattle.gw_object.specs.declared.parts.TableState.{TableState}
use Rattle.gw_rules.specs.Kinds.{return_row_of}
use Rattle.gw_rules.specs.Rows.{Row}
use Rattle.gw_rules.specs.Seen.{seen_rows}
use Rattle.gw_settle.specs.declared.written.Stop.{Stop}
use Rattle.gw_settle.specs.declared.written.Stop.TheVariants as stops
use Rattle.gw_settle.specs.declared.written.Written.{Written}
use Rattle.gw_settle.specs.Rounds.{TableRows}
use Rattle.gw_settle.specs.Numbers.{sets_of, sets_in, AreFew, HasParams}

-- the return row that what a parameter holds names is among so many
abbrev pub NamesRow : ℕ → TableKind → Type 0
NamesRow n kind = IfSome (return_row_of kind) (λ r. r < n)

-- those of parameters are
abbrev pub ParamsName : ℕ → List TableParameter → Type 0
ParamsName n ps = All (λ (p : TableParameter). NamesRow n p.kind) ps

-- those of a row of a state table are
abbrev pub NamesRows : ℕ → TableState → Type 0
NamesRows n state = ParamsName n state.parameters

-- those of rows are, as far as they are there
abbrev pub StatesName : ℕ → List (Option TableState) → Type 0
StatesName n states = All (λ state. IfSome state (NamesRows n)) states

-- a written table says what these rows say, and its return rows are their sets
pub record SaysRows (table : Written) (rows : TableRows) : Type 0 where
  pub returns : sets_of table.returns ≡ sets_in rows
  pub blocks : seen_rows table.returns table.states ≡ rows.blocks
  pub chains : seen_rows table.returns table.chain_states ≡ rows.chains
  pub block_numbers : StatesName (length table.returns) table.states
  pub chain_numbers : StatesName (length table.returns) table.chain_states

-- LIMITS

-- no amount is above what an object may have
abbrev pub AmountsFit : List (ℕ × ℕ) → Type 0
AmountsFit units = All (λ e. e.1 ≤ greatest_units) units

-- an object with these sets may have a row
pub record RowFits (sets : List (List ℕ)) (row : Row) : Type 0 where
  pub params : HasParams sets row.params
  pub units : AmountsFit row.units

-- and rows, as far as they are there
abbrev pub RowsFit : List (List ℕ) → List (Option Row) → Type 0
RowsFit sets rows = All (λ row. IfSome row (RowFits sets)) rows

-- an object may have a table of these rows, with a return row for each of their sets
pub record CanBeWritten (rows : TableRows) : Type 0 where
  pub sets : AreFew (sets_in rows)
  pub blocks : RowsFit (sets_in rows) rows.blocks
  pub chains : RowsFit (sets_in rows) rows.chains

-- memory ran out, or a limit is passed, which is where something can't be
abbrev pub StopsUnless : Type 0 → Stop → Type 0
StopsUnless can stop = (stop ≡ stops.Memory) ⊎ ((stop ≡ stops.Limit) × ¬ can)
