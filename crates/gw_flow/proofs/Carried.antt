-- The parameters of rows of the state table, as calls carry them.
use Rattle.std.proofs.Common.{◌≡◌, ℕ, ◌<◌, List, [], ◌∷◌, map, refl, ap₂}
use Rattle.std.specs.Prelude.{AllPairs}
use Rattle.gw_object.specs.declared.parts.TableKind.{TableKind}
use Rattle.gw_object.specs.declared.parts.TableKind.TheVariants.{Num as TableNum, Ret as TableRet}
use Rattle.gw_object.specs.declared.parts.TableParameter.{TableParameter}
use Rattle.gw_object.specs.declared.parts.ReturnRow.{ReturnRow}
use Rattle.gw_rules.specs.declared.set_parameters.Parameter.{Parameter}
use Rattle.gw_rules.specs.Rows.{ParamKind}
use Rattle.gw_rules.specs.Seen.{kind_seen, kind_said, params_said}
use Rattle.gw_flow.specs.Known.{kind_carried, parameter_carried, params_of}
use Rattle.gw_flow.proofs.Ascending.{AllPairs-map}

-- they ascend where those of the row do
pub carried_ascends : (ps : List TableParameter) → AllPairs (λ (a b : TableParameter). a.number < b.number) ps
    → AllPairs (λ (a b : Parameter). a.number < b.number) (map parameter_carried ps)
carried_ascends ps up = AllPairs-map (λ (a b : Parameter). a.number < b.number) parameter_carried ps up

kind_same : (rows : List ReturnRow) (kind : TableKind) → kind_seen rows (kind_carried kind) ≡ kind_said rows kind
kind_same rows TableNum = refl
kind_same rows (TableRet r) = refl

-- and they say what the row says
pub carried_says : (rows : List ReturnRow) (ps : List TableParameter) → params_of rows (map parameter_carried ps) ≡ params_said rows ps
carried_says rows [] = refl
carried_says rows (p ∷ ps) = ap₂ (λ (kind : ParamKind) (later : List (ℕ × ParamKind)). (p.number, kind) ∷ later) (kind_same rows p.kind) (carried_says rows ps)
