-- What rows of one study tell.
use Rattle.std.specs.Prelude.{◌≡◌, ◌⊎◌, ℕ, ◌+◌, List, [], ◌∷◌, vec_len, Option, None, Some, Bool}
use Rattle.std.specs.Prelude.{Vec, Result, IfOk, OnOk}
use Rattle.std.specs.Global.{Global}
use Rattle.gw_answers.specs.Status.{end_status, refusal_status}
use Rattle.gw_figures.specs.Labels.{Label, labels}
use Rattle.gw_figures.specs.declared.figure.Figure.{Figure}
use Rattle.gw_figures.specs.declared.run.Run.{Run}
use Rattle.gw_study.specs.Study.{IsTextOfResults}
use Rattle.gw_study.specs.Table.{Adds}
use Rattle.gw_study.specs.declared.request.StudyRequest.{StudyRequest}
use Rattle.gw_study.specs.declared.telling.Results.{Results}
use Rattle.gw_comparison.specs.declared.point.Point.{Point}
use Rattle.gw_alternatives.specs.Told.{IsTableOf, IsPointBy, AddsBlock, AddsAllDifferences}
use Rattle.gw_rows.specs.Reading.{HasFigures, IsLine, IsRunInRange, NamesFigures}
use Rattle.gw_rows.specs.Rows.{Source, row}
use Rattle.gw_summary.specs.Adding.{Line}
use Rattle.gw_summary.specs.Complete.{AreComplete}
use Rattle.gw_summary.specs.Keeping.{AreRowsOf, IsRead}
use Rattle.gw_summary.specs.declared.pieces.Pieces.{Pieces}
use Rattle.gw_summary.specs.declared.point.PointRows.{PointRows}
use Rattle.gw_summary.specs.declared.rows.Rows.{Rows}
use Rattle.gw_summary.specs.declared.study.Study.{Study}
use Rattle.gw_summary.specs.declared.telling.SummaryRequest.{SummaryRequest}

-- WHAT THEY TELL

-- of what the runs of a point are some
abbrev pub source : Study → List ℕ → Source
source study point = record {
  model = study.origin.model.items;
  rows = study.origin.rows;
  point = point;
  count = study.origin.count;
  from = study.origin.from;
}

-- a line is the row of a run with these figures, whose numbers are in the ranges of their types
pub record IsRunOfRow (labels : List Label) (source : Source) (number : ℕ) (line : List ℕ) (run : Run) : Type 0 where
  pub line_is : IsLine line (row labels source number run)
  pub figures : HasFigures labels run
  pub range : IsRunInRange run

-- the run that the line of a number tells, if there is a line: that of the row which it is
abbrev pub IsRunOfLine : List Label → Source → ℕ → Line → Option Run → Type 0
IsRunOfLine labels source number None run = run ≡ None
IsRunOfLine labels source number (Some line) run = (told : Run) × IsRunOfRow labels source number line.items told × (run ≡ Some told)

-- a run before others, if it is there
abbrev pub with_run : Option Run → List Run → List Run
with_run None runs = runs
with_run (Some run) runs = run ∷ runs

-- the runs that lines tell, in order, the first of which has this number
unfoldable pub LinesTell : List Label → Source → ℕ → List Line → List Run → Type 0
LinesTell labels source number [] runs = runs ≡ []
LinesTell labels source number (line ∷ lines) runs =
    (run : Option Run) × (rest : List Run) × IsRunOfLine labels source number line run
    × LinesTell labels source (number + 1) lines rest × (runs ≡ with_run run rest)

-- the runs that the lines of a point of this name tell
abbrev pub LinesTellRuns : List Figure → Study → List ℕ → List Line → List Run → Type 0
LinesTellRuns figures study point lines runs = LinesTell (labels figures) (source study point) 0 lines runs

-- the figures that the header names, and the runs that the lines of a point tell
pub record AreResultsOf (rows : Rows) (study : Study) (point : PointRows) (results : Results) : Type 0 where
  pub figures : NamesFigures rows.header.items results.figures.items
  pub runs : LinesTellRuns results.figures.items study point.name.items point.lines.items results.runs.items

-- what a study is asked for that has these runs
abbrev pub study_request : Study → SummaryRequest → ℕ → StudyRequest
study_request study request runs = record {
  runs = runs;
  count = study.origin.count;
  from = study.origin.from;
  seeds = request.seeds;
  workers = 0;
  all = request.all;
}

-- the same of these results
abbrev pub asked_of : Study → SummaryRequest → Results → StudyRequest
asked_of study request results = study_request study request (vec_len results.runs)

-- what is told of the model as it is
abbrev pub IsModelTold : Rows → Study → SummaryRequest → PointRows → List ℕ → Type 0
IsModelTold rows study request point text =
    (results : Results) × AreResultsOf rows study point results
    × IsTextOfResults results (asked_of study request results) study.origin.count text

-- what is told of a point: its table, and what its runs say
pub record TellsPoint (rows : Rows) (study : Study) (request : SummaryRequest) (point : PointRows) (told : Point) (old new : List ℕ) : Type 0 where
  pub results : Results
  pub runs : AreResultsOf rows study point results
  pub point_is : IsPointBy request.all point.name.items results told
  pub table : Adds (IsTableOf point.name.items results (asked_of study request results) study.origin.count) old new

-- where all went well, a point is told behind a text, and what its runs say comes back
abbrev pub PutsPoint : {E : Type 0} → Result Point E → Rows → Study → SummaryRequest → PointRows → Vec ℕ Global → Vec ℕ Global → Type 0
PutsPoint result rows study request point old new =
    IfOk result (λ told. TellsPoint rows study request point told old.items new.items)

-- all points are, one after the other
unfoldable pub TellsPoints : Rows → Study → SummaryRequest → List PointRows → List Point → List ℕ → List ℕ → Type 0
TellsPoints rows study request [] told old new = (told ≡ []) × (new ≡ old)
TellsPoints rows study request (point ∷ points) told old new =
    (first : Point) × (others : List Point) × (middle : List ℕ) × (told ≡ first ∷ others)
    × TellsPoint rows study request point first old middle × TellsPoints rows study request points others middle new

-- the tables of points are added, and these are the differences of each to the first
abbrev pub AddsTables : Rows → Study → SummaryRequest → List PointRows → List ℕ → List ℕ → List ℕ → Type 0
AddsTables rows study request points differences old new =
    (told : List Point) × TellsPoints rows study request points told old new × AddsAllDifferences request.all told [] differences

-- where all went well, the tables of points are put behind a text, and these are their differences
abbrev pub PutsTables : {E : Type 0} → Result (Unit {0}) E → Rows → Study → SummaryRequest → List PointRows → Vec ℕ Global → Vec ℕ Global
    → Vec ℕ Global → Type 0
PutsTables result rows study request points differences old new =
    OnOk result (AddsTables rows study request points differences.items old.items new.items)

-- the tables of all points, and behind them the differences of each to the first, as a study tells them
abbrev pub ArePointsTold : Rows → Study → SummaryRequest → List ℕ → Type 0
ArePointsTold rows study request text =
    (told : List Point) × (tables : List ℕ) × TellsPoints rows study request rows.points.items told [] tables
    × AddsAllDifferences request.all told tables text

-- what is told of all rows of a study: the table of the one model that there is, as it is, or those of points
abbrev pub TellsRows : Rows → Study → SummaryRequest → List ℕ → Type 0
TellsRows rows study request text =
    ((point : PointRows) × (rows.points.items ≡ point ∷ []) × IsModelTold rows study request point text) ⊎ ArePointsTold rows study request text

-- POINT BY POINT

-- the first of points, if there is one
abbrev pub first_of : List Point → Option Point
first_of [] = None
first_of (point ∷ points) = Some point

-- the differences of one more point to the first are added; or it is the first
abbrev pub AddsNext : Bool → Option Point → Point → Option Point → List ℕ → List ℕ → Type 0
AddsNext all None point first old new = (first ≡ Some point) × (new ≡ old)
AddsNext all (Some known) point first old new = (first ≡ Some known) × AddsBlock all known point old new

-- no line waits, and none told a refusal
abbrev pub HasOnlyRows : Rows → Type 0
HasOnlyRows rows = (rows.waiting.items ≡ []) × (rows.refused ≡ None)

-- what is answered: that, of rows that are complete, or a refusal
abbrev pub IsSummary : Rows → SummaryRequest → List ℕ → ℕ → Type 0
IsSummary rows request text status =
    ((status ≡ end_status) × HasOnlyRows rows
    × ((study : Study) × (rows.study ≡ Some study) × AreComplete rows.points.items request.seeds × TellsRows rows study request text))
    ⊎ (status ≡ refusal_status)

-- what is answered about bytes: a summary of rows that keep just their lines that aren't headers, or a refusal
abbrev pub IsSummaryOf : List ℕ → SummaryRequest → List ℕ → ℕ → Type 0
IsSummaryOf bytes request text status =
    ((rows : Rows) × AreRowsOf bytes rows.points.items × IsSummary rows request text status) ⊎ (status ≡ refusal_status)

-- the same about all bytes that may have been read into pieces
abbrev pub IsSummaryOfPieces : Pieces → SummaryRequest → List ℕ → ℕ → Type 0
IsSummaryOfPieces pieces request text status = (bytes : List ℕ) → IsRead bytes pieces → IsSummaryOf bytes request text status
