-- What settling an object answers.
use Rattle.std.specs.Prelude.{◌≡◌, ◌⊎◌, List, Some, Option}
use Rattle.gw_object.specs.Grammar.{HasSpelling}
use Rattle.gw_object.specs.Reading.{out_of_memory}
use Rattle.gw_object.specs.declared.fault.Fault.{Fault}
use Rattle.gw_object.specs.declared.fault.Place.TheVariants as places
use Rattle.gw_object.specs.declared.parts.ReturnRow.{ReturnRow}
use Rattle.gw_object.specs.declared.parts.TableState.{TableState}
use Rattle.gw_object.specs.declared.parts.Parts.{Parts}
use Rattle.gw_rules.specs.Checks.{first_broken}
use Rattle.gw_rules.specs.Pass.{KindsPass}
use Rattle.gw_rules.specs.Flow.{own_table, flow_checks, FlowPasses}
use Rattle.gw_settle.specs.Rounds.{TableRows, own_rows, AreSettled}
use Rattle.gw_settle.specs.Keeps.{NoneChanged, IsTableBelow, AreKept, IsSettled}
use Rattle.gw_settle.specs.declared.written.Written.{Written}
use Rattle.gw_settle.specs.Written.{SaysRows}
use Rattle.gw_settle.specs.Numbers.{sets_of, sets_in}

-- an object with these return rows and this state table in place of its own
abbrev pub with_table : Parts → List ReturnRow → List (Option TableState) → List (Option TableState) → Parts
with_table p returns states chain_states = record p { returns = returns; states = states; chain_states = chain_states }

-- an object with a written table in place of its own
abbrev pub with_written : Parts → Written → Parts
with_written p table = with_table p table.returns table.states table.chain_states

-- an object is another one with some return rows and some state table
abbrev pub DiffersInTable : Parts → Parts → Type 0
DiffersInTable p q = q ≡ with_table p q.returns q.states q.chain_states

-- an object with some state table, of which kinds and flow pass
pub record Passes (p q : Parts) : Type 0 where
  pub same : DiffersInTable p q
  pub kinds : KindsPass q
  pub flow : FlowPasses q (own_table q)

-- an object with the assembler's table: its rows are those after the last round, and its return rows are their sets in order of first sight
pub record HasAssemblersTable (p q : Parts) : Type 0 where
  pub rows : AreSettled p (own_rows q)
  pub returns : sets_of q.returns ≡ sets_in (own_rows q)

-- the first fault that flow finds in an object with its own table, or that memory ran out
abbrev pub IsFlowFault : Parts → Fault → Type 0
IsFlowFault p fault = (first_broken (flow_checks p (own_table p)) ≡ Some fault) ⊎ (fault ≡ out_of_memory)

-- that a limit of the object format is passed
abbrev pub past_limit : Fault
past_limit = record { code = 82; place = places.Nowhere }

-- that a limit is passed, which is where no object with the assembler's table has a spelling
pub record IsTooLarge (p : Parts) (fault : Fault) : Type 0 where
  pub is : fault ≡ past_limit
  pub none : (q : Parts) → DiffersInTable p q → HasAssemblersTable p q → ¬ HasSpelling q

-- the fault is no fault of flow: memory ran out, or the table is too large for an object
abbrev pub IsNoFlowFault : Parts → Fault → Type 0
IsNoFlowFault p fault = (fault ≡ out_of_memory) ⊎ IsTooLarge p fault

-- a refusal is no fault of flow, or the first one that flow finds in the object with the assembler's table
abbrev pub IsRefused : Parts → Fault → Type 0
IsRefused p fault = IsNoFlowFault p fault
    ⊎ ((q : Parts) × DiffersInTable p q × HasAssemblersTable p q × (first_broken (flow_checks q (own_table q)) ≡ Some fault))

-- no model is refused for its own table: where flow passes with any table, the refusal is no fault of flow
abbrev pub IsComplete : Parts → Fault → Type 0
IsComplete p fault = NoneChanged p → (q : Parts) → Passes p q → IsNoFlowFault p fault

-- and each row of the table fits the one of every table with which flow passes
abbrev pub IsGreatest : Parts → Parts → Type 0
IsGreatest p settled = NoneChanged p → (q : Parts) → Passes p q → IsTableBelow (own_table settled) (own_table q)

-- rows are those of the assembler's table, the rounds have kept what they keep of them, and nothing is left to be sent
pub record AreFinal (p : Parts) (rows : TableRows) : Type 0 where
  pub table : AreSettled p rows
  pub kept : AreKept p rows
  pub settled : IsSettled p rows

-- a written table is the assembler's of an object, by what the rounds keep
pub record IsTableOf (p : Parts) (table : Written) : Type 0 where
  pub rows : TableRows
  pub says : SaysRows table rows
  pub final : AreFinal p rows
