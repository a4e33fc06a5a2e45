-- The states that calls carry, seen as abstract states, and as rows of a state table.
use Rattle.std.specs.Prelude.{◌≡◌, ◌≢◌, ℕ, ◌<◌, List, map, Option, option_map, All, AllPairs}
use Rattle.std.specs.Option.{option_copied}
use Rattle.std.specs.Borrow.{Bor}
use Rattle.gw_object.specs.declared.parts.TableKind.{TableKind}
use Rattle.gw_object.specs.declared.parts.TableKind.TheVariants.{Num as TableNum, Ret as TableRet}
use Rattle.gw_object.specs.declared.parts.TableParameter.{TableParameter}
use Rattle.gw_object.specs.declared.parts.TableState.{TableState}
use Rattle.gw_object.specs.declared.parts.ReturnRow.{ReturnRow}
pub use Rattle.gw_object.specs.Returns.{row_blocks}
use Rattle.gw_rules.specs.declared.set_parameters.ParameterKind.{ParameterKind}
use Rattle.gw_rules.specs.declared.set_parameters.ParameterKind.TheVariants.{Num as OwnNum, Ret as OwnRet}
use Rattle.gw_rules.specs.declared.set_parameters.Parameter.{Parameter}
use Rattle.gw_flow.specs.declared.abstract_state.Amount.{Amount}
use Rattle.gw_flow.specs.declared.abstract_state.StateParts.{StateParts}
use Rattle.gw_rules.specs.Entries.{with_entry}
use Rattle.gw_rules.specs.Rows.{ParamKind, Row, nonzero}
use Rattle.gw_rules.specs.Seen.{kind_seen, row_meaning, seen_rows}

-- each parameter with what it holds
abbrev pub params_of : List ReturnRow → List Parameter → List (ℕ × ParamKind)
params_of rows ps = map (λ (p : Parameter). (p.number, kind_seen rows p.kind)) ps

-- each amount with its entity
abbrev pub amounts_of : List Amount → List (ℕ × ℕ)
amounts_of us = map (λ (u : Amount). (u.entity, u.number)) us

-- amounts are others with so many units of an entity; of none there is no amount
abbrev pub ArePut : ℕ → ℕ → List Amount → List Amount → Type 0
ArePut entity number old new = amounts_of new ≡ with_entry entity (nonzero number) (amounts_of old)

-- parameters ascend by their numbers
abbrev pub ParametersAscend : List Parameter → Type 0
ParametersAscend ps = AllPairs (λ (a b : Parameter). a.number < b.number) ps

-- numbers ascend
abbrev pub NumbersAscend : List ℕ → Type 0
NumbersAscend ns = AllPairs (λ a b. a < b) ns

-- amounts ascend by their entities
abbrev pub AmountsAscend : List Amount → Type 0
AmountsAscend us = AllPairs (λ (a b : Amount). a.entity < b.entity) us

-- no amount is 0
abbrev pub AreSome : List Amount → Type 0
AreSome us = All (λ (u : Amount). u.number ≢ 0) us

-- the lists of a state's parts ascend, each number in them once, and no amount is 0
pub record PartsAscend (s : StateParts) : Type 0 where
  pub parameters : ParametersAscend s.parameters
  pub facilities : NumbersAscend s.facilities
  pub units : AmountsAscend s.units
  pub amounts : AreSome s.units

-- what the parts of a state say, by the return rows
abbrev pub known_row : List ReturnRow → StateParts → Row
known_row rows s = record { params = params_of rows s.parameters; facilities = s.facilities; units = amounts_of s.units }

-- what a row says that is lent, if there is one
abbrev pub row_by : List ReturnRow → Option (Bor StateParts) → Option Row
row_by rows row = option_map (known_row rows) (option_copied row)

-- what several rows say, as far as they are there
abbrev pub known_rows : List ReturnRow → List (Option StateParts) → List (Option Row)
known_rows returns rows = map (option_map (known_row returns)) rows

-- a state is an abstract one in the numbers of these parameters: by any return rows by which they say what that says of its own, it says the same
abbrev pub IsInNumbersOf : List Parameter → StateParts → Row → Type 0
IsInNumbersOf ps s state = (rows : List ReturnRow) → state.params ≡ params_of rows ps → known_row rows s ≡ state

-- what a row says that a parameter holds, as calls carry it
abbrev pub kind_carried : TableKind → ParameterKind
kind_carried TableNum = OwnNum
kind_carried (TableRet r) = OwnRet r

-- a row's parameter, as calls carry it
abbrev pub parameter_carried : TableParameter → Parameter
parameter_carried p = record { number = p.number; kind = kind_carried p.kind }

-- a state carries a row of the state table: it says the same, whatever the return rows
abbrev pub Carries : StateParts → TableState → Type 0
Carries s row = (returns : List ReturnRow) → known_row returns s ≡ row_meaning returns row

-- so it is where there may be no row
abbrev pub CarriesRow : Option StateParts → Option TableState → Type 0
CarriesRow s row = (returns : List ReturnRow) → option_map (known_row returns) s ≡ option_map (row_meaning returns) row

-- and with each of several rows
abbrev pub CarryRows : List (Option StateParts) → List (Option TableState) → Type 0
CarryRows states rows = (returns : List ReturnRow) → known_rows returns states ≡ seen_rows returns rows
