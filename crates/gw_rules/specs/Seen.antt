-- The states that objects and calls carry, seen as abstract states.
use Rattle.std.specs.Prelude.{ℕ, ◌<◌, List, [], ◌∷◌, map, Option, option_map, All}
use Rattle.gw_object.specs.declared.blocks.Units.{Units}
use Rattle.gw_object.specs.declared.parts.TableKind.{TableKind}
use Rattle.gw_object.specs.declared.parts.TableKind.TheVariants.{Num as TableNum, Ret as TableRet}
use Rattle.gw_object.specs.declared.parts.TableParameter.{TableParameter}
use Rattle.gw_object.specs.declared.parts.TableState.{TableState}
use Rattle.gw_object.specs.declared.parts.ReturnRow.{ReturnRow}
pub use Rattle.gw_object.specs.Returns.{row_blocks}
use Rattle.gw_rules.specs.declared.set_parameters.ParameterKind.{ParameterKind}
use Rattle.gw_rules.specs.declared.set_parameters.ParameterKind.TheVariants.{Num as OwnNum, Ret as OwnRet, RetTo as OwnRetTo}
use Rattle.gw_rules.specs.Rows.{ParamKind, Num, Ret, Row}

-- the blocks of return rows have numbers that another one comes after
abbrev pub HaveNext : List ReturnRow → Type 0
HaveNext rows = All (λ (row : ReturnRow). All (λ b. b < 65535) row.blocks) rows

-- what a parameter of this kind holds, by the return rows
abbrev pub kind_seen : List ReturnRow → ParameterKind → ParamKind
kind_seen rows OwnNum = Num
kind_seen rows (OwnRet r) = Ret (row_blocks rows r)
kind_seen rows (OwnRetTo b) = Ret (b ∷ [])

-- each of a row's amounts with its entity
abbrev pub units_seen : List Units → List (ℕ × ℕ)
units_seen us = map (λ (u : Units). (u.entity, u.number)) us

-- what a row says that a parameter holds, by the return rows
abbrev pub kind_said : List ReturnRow → TableKind → ParamKind
kind_said rows TableNum = Num
kind_said rows (TableRet r) = Ret (row_blocks rows r)

-- each of a row's parameters with what it holds
abbrev pub params_said : List ReturnRow → List TableParameter → List (ℕ × ParamKind)
params_said rows ps = map (λ (p : TableParameter). (p.number, kind_said rows p.kind)) ps

-- what a row of the state table says, by the return rows
abbrev pub row_meaning : List ReturnRow → TableState → Row
row_meaning rows s = record { params = params_said rows s.parameters; facilities = s.facilities; units = units_seen s.units }

-- what several rows of it say, as far as they are there
abbrev pub seen_rows : List ReturnRow → List (Option TableState) → List (Option Row)
seen_rows returns rows = map (option_map (row_meaning returns)) rows
