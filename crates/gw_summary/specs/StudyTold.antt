-- What is told of all rows of one study of a model as it is.
use Rattle.std.specs.Prelude.{◌≡◌, ◌≤◌, ◌+◌, ℕ, List, [], ◌∷◌, map, length, Some, None, Result, Vec, IfOk}
use Rattle.std.specs.Global.{Global}
use Rattle.gw_answers.specs.Status.{end_status}
use Rattle.gw_figures.specs.declared.run.Run.{Run}
use Rattle.gw_rows.specs.Reading.{outcome_of}
use Rattle.gw_study.specs.Study.{IsResultsText}
use Rattle.gw_study.specs.declared.request.StudyRequest.{StudyRequest}
use Rattle.gw_summary.specs.Adding.{IsWhole}
use Rattle.gw_summary.specs.StudyRows.{StudyRuns, IsReadableStudy, AreAllRows, HasHeaderOf, IsOfStudy, HoldsRows, IsReadOf}
use Rattle.gw_summary.specs.Complete.{IsFirstOf}
use Rattle.gw_summary.specs.Telling.{IsModelTold}
use Rattle.gw_summary.specs.declared.pieces.Pieces.{Pieces}
use Rattle.gw_summary.specs.declared.point.PointRows.{PointRows}
use Rattle.gw_summary.specs.declared.rows.Rows.{Rows}
use Rattle.gw_summary.specs.declared.study.Study.{Study}
use Rattle.gw_summary.specs.declared.telling.SummaryRequest.{SummaryRequest}

-- the number behind a study's last run
abbrev pub end_of_runs : StudyRuns → ℕ
end_of_runs s = s.first + length s.runs

-- what is asked for of a study's runs
abbrev pub study_asked : StudyRuns → SummaryRequest → StudyRequest
study_asked s request = record {
  runs = length s.runs;
  count = s.source.count;
  from = s.source.from;
  seeds = request.seeds;
  workers = 0;
  all = request.all;
}

-- a text is the table of runs of which the same is kept as of a study's runs
pub record IsStudyText (s : StudyRuns) (request : SummaryRequest) (text : List ℕ) : Type 0 where
  pub runs : List Run
  pub same : map outcome_of runs ≡ map outcome_of s.runs
  pub told : IsResultsText s.labels runs (study_asked s request) s.source.count text

-- it is told at the end, and nothing is refused
abbrev pub TellsStudy : StudyRuns → SummaryRequest → List ℕ → ℕ → Type 0
TellsStudy s request text status = (status ≡ end_status) × IsStudyText s request text

-- the runs of a study are those of the study of the number that is asked for
abbrev pub IsAsked : StudyRuns → SummaryRequest → Type 0
IsAsked s request = IsFirstOf (end_of_runs s) request.seeds s.first

-- where one point without a name is there, it is told as the model as it is
abbrev pub TellsLonePoint : {E : Type 0} → Result (Vec ℕ Global) E → Rows → Study → SummaryRequest → Type 0
TellsLonePoint result rows study request =
    (point : PointRows) → rows.points.items ≡ point ∷ [] → point.name.items ≡ []
    → IfOk result (λ text. IsModelTold rows study request point text.items)

-- rows are all those of a study, and nothing else is there
pub record AreAllHeld (s : StudyRuns) (rows : Rows) : Type 0 where
  pub waiting : rows.waiting.items ≡ []
  pub refused : rows.refused ≡ None
  pub header : HasHeaderOf s rows
  pub study : Study
  pub study_is : rows.study ≡ Some study
  pub common : IsOfStudy s study
  pub point : PointRows
  pub alone : rows.points.items ≡ point ∷ []
  pub holds : HoldsRows s point
  pub last : length point.lines.items ≡ end_of_runs s
  pub whole : IsWhole point.lines.items s.first (end_of_runs s)
  pub few : end_of_runs s ≤ 512

-- what is told of rows: where they are all those of a study that is asked for, its table
abbrev pub TellsHeld : Rows → SummaryRequest → List ℕ → ℕ → Type 0
TellsHeld rows request text status =
    (s : StudyRuns) → IsReadableStudy s → IsAsked s request → AreAllHeld s rows → TellsStudy s request text status

-- what is told of bytes: where they are all rows of a study that is asked for, in any order, its table
abbrev pub TellsStudies : List ℕ → SummaryRequest → List ℕ → ℕ → Type 0
TellsStudies bytes request text status =
    (s : StudyRuns) → IsReadableStudy s → IsAsked s request → AreAllRows s bytes → TellsStudy s request text status

-- the same of bytes that may have been read into pieces
abbrev pub TellsStudiesRead : Pieces → SummaryRequest → List ℕ → ℕ → Type 0
TellsStudiesRead pieces request text status =
    (s : StudyRuns) (bytes : List ℕ) → IsReadableStudy s → IsAsked s request → AreAllRows s bytes → IsReadOf s bytes pieces
    → TellsStudy s request text status
