-- What is told of the results of a point.
use Rattle.std.proofs.Common.{◌≡◌, ℕ, List, [], ◌∷◌, length, get_or, arith, Result, Ok, Err, IfOk, OnOk, Option, Some, Vec, inl, sym, ap, subst}
use Rattle.std.specs.Global.{Global}
use Rattle.std.specs.Prelude.{vec_len}
use Rattle.gw_figures.specs.Labels.{Label, labels}
use Rattle.gw_figures.specs.declared.run.Run.{Run}
use Rattle.gw_rows.specs.Reading.{IsLine, IsLineOf}
use Rattle.gw_rows.specs.Rows.{Source, row, source_of}
use Rattle.gw_rows.specs.declared.row.Row.{Row}
use Rattle.gw_study.specs.Study.{IsResultsText}
use Rattle.gw_study.specs.Table.{Adds}
use Rattle.gw_study.specs.declared.request.StudyRequest.{StudyRequest}
use Rattle.gw_study.specs.declared.telling.Results.{Results}
use Rattle.gw_comparison.specs.declared.point.Point.{Point}
use Rattle.gw_alternatives.specs.Told.{IsTableOf, IsPointBy}
use Rattle.gw_summary.specs.Telling.{IsRunOfLine, AreResultsOf, study_request, IsModelTold, TellsPoint, TellsRows}
use Rattle.gw_summary.specs.declared.point.PointRows.{PointRows}
use Rattle.gw_summary.specs.declared.rows.Rows.{Rows}
use Rattle.gw_summary.specs.declared.study.Study.{Study}
use Rattle.gw_summary.specs.declared.telling.SummaryRequest.{SummaryRequest}

-- a line that is that of a row tells the row's run
pub run_of_row : {E : Type 0} (named : List Label) (there : Source) (number : ℕ) (line : Vec ℕ Global) (read : Row) (r : Result (Option Run) E) →
    IsLineOf named line.items read
    → IfOk r (λ told. told ≡ Some read.run) → OnOk r (source_of read.origin ≡ there) → OnOk r (read.number ≡ number)
    → IfOk r (IsRunOfLine named there number (Some line))
run_of_row named there number line read (Ok told) here is by_source by_number =
    let of_source = subst (λ (s : Source). IsLine line.items (row named s read.number read.run)) by_source here.row_is.1 in
    let line_is = subst (λ (n : ℕ). IsLine line.items (row named there n read.run)) by_number of_source in
    (read.run, record { line_is = line_is; figures = here.figures; range = here.range }, is)
run_of_row named there number line read (Err e) here is by_source by_number = tt

pub model_of : {E : Type 0} (rows : Rows) (study : Study) (request : SummaryRequest) (point : PointRows) (results : Results) (asked : StudyRequest) (r :
    Result (Vec ℕ Global) E)
    → AreResultsOf rows study point results → asked ≡ study_request study request (vec_len results.runs)
    → IfOk r (λ text. IsResultsText (labels results.figures.items) results.runs.items asked study.origin.count text.items)
    → IfOk r (λ text. IsModelTold rows study request point text.items)
model_of rows study request point results asked (Ok text) are is table =
    (results, are, subst (λ q. IsResultsText (labels results.figures.items) results.runs.items q study.origin.count text.items) is table)
model_of rows study request point results asked (Err e) are is table = tt

pub point_of : {E : Type 0} (rows : Rows) (study : Study) (request : SummaryRequest) (point : PointRows) (results : Results) (asked : StudyRequest) (old new :
    List ℕ) (r : Result Point E)
    → AreResultsOf rows study point results → asked ≡ study_request study request (vec_len results.runs)
    → Adds (IsTableOf point.name.items results asked study.origin.count) old new → IfOk r (IsPointBy request.all point.name.items results)
    → IfOk r (λ told. TellsPoint rows study request point told old new)
point_of rows study request point results asked old new (Ok told) are is table h = record {
  results = results;
  runs = are;
  point_is = h;
  table = subst (λ q. Adds (IsTableOf point.name.items results q study.origin.count) old new) is table;
}
point_of rows study request point results asked old new (Err e) are is table h = tt

-- what has one item is that item
pub single : (xs : List PointRows) (x : PointRows) → length xs ≡ 1 → x ≡ get_or xs 0 x → xs ≡ x ∷ []
single [] x one is = absurd (omega (arith, one))
single (y ∷ []) x one is = ap (λ z. z ∷ []) (sym is)
single (y ∷ z ∷ zs) x one is = absurd (omega (arith, one))

pub rows_of_model : {E : Type 0} (rows : Rows) (study : Study) (request : SummaryRequest) (point : PointRows) (r : Result (Vec ℕ Global) E) →
    rows.points.items ≡ point ∷ []
    → IfOk r (λ text. IsModelTold rows study request point text.items) → IfOk r (λ text. TellsRows rows study request text.items)
rows_of_model rows study request point (Ok text) is told = inl (point, is, told)
rows_of_model rows study request point (Err e) is told = tt
