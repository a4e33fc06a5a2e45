-- What is told of the runs of alternatives.
use Rattle.std.specs.Prelude.{◌≡◌, ◌⊎◌, ℕ, ◌+◌, List, [], ◌∷◌, ◌++◌, map, codes, Bool, ◌||◌, ℤ, Option, None, Result, IfOk, OnOk, MatchResult, Vec}
use Rattle.std.specs.Prelude.{if◌then◌else◌}
use Rattle.std.specs.Global.{Global}
use Rattle.gw_step.specs.declared.ends.End.TheVariants.{Done}
use Rattle.gw_answers.specs.Requests.{AnswersAs}
use Rattle.gw_answers.specs.Status.{end_status, refusal_status}
use Rattle.gw_answers.specs.declared.answer.Answer.{Answer}
use Rattle.gw_figures.specs.Labels.{Label, labels}
use Rattle.gw_figures.specs.declared.figure.Figure.{Figure}
use Rattle.gw_figures.specs.Trends.{value_at}
use Rattle.gw_figures.specs.declared.run.Run.{Run}
use Rattle.gw_comparison.specs.Differences.{AddsDifferences}
use Rattle.gw_comparison.specs.Sheets.{AddsEach, AddsSheet}
use Rattle.gw_comparison.specs.declared.point.Column.{Column}
use Rattle.gw_comparison.specs.declared.point.Point.{Point}
use Rattle.gw_study.specs.Table.{is_ended_so, Adds}
use Rattle.gw_study.specs.Study.{AreResultsOf, IsTextOfResults}
use Rattle.gw_study.specs.declared.request.StudyRequest.{StudyRequest}
use Rattle.gw_study.specs.declared.telling.Results.{Results}
use Rattle.gw_alternatives.specs.declared.study_point.StudyPoint.{StudyPoint}
use Rattle.gw_parameters.specs.declared.fault.NoAnswer.{NoAnswer}
use Rattle.gw_alternatives.specs.declared.form.Form.{Form}
use Rattle.gw_alternatives.specs.declared.form.Form.TheVariants.{Table, Csv, Picture}
use Rattle.gw_alternatives.specs.Alternatives.{ArePoints, AreModels}

-- WHAT RUNS SAY

-- the value of a figure at a place in a run that came to its count, if it has one there
abbrev pub value_in : ℕ → Run → Option ℤ
value_in place run = if is_ended_so Done run then value_at place run.values.items else None

-- a figure with its values: its name, whether it is told where not all are, and the value of each run
pub record Series : Type 0 where
  pub name : List ℕ
  pub main : Bool
  pub values : List (Option ℤ)

-- those of a column
abbrev pub series_of : Column → Series
series_of column = record { name = column.name.items; main = column.is_main; values = column.values.items }

-- those of a figure at a place, run by run
abbrev pub series_at : List Run → ℕ → Label → Series
series_at runs place figure = record { name = figure.name; main = figure.main; values = map (value_in place) runs }

-- those of figures that are told, the first of which is at this place
unfoldable pub series_from : Bool → List Run → ℕ → List Label → List Series
series_from all runs place [] = []
series_from all runs place (figure ∷ rest) =
    if all || figure.main then series_at runs place figure ∷ series_from all runs (place + 1) rest
    else series_from all runs (place + 1) rest

-- those of all figures that are told
abbrev pub all_series : Bool → List Run → List Figure → List Series
all_series all runs figures = series_from all runs 0 (labels figures)

-- a point has a name, and what results say
pub record IsPointBy (all : Bool) (called : List ℕ) (results : Results) (point : Point) : Type 0 where
  pub name : point.name.items ≡ called
  pub columns : map series_of point.columns.items
      ≡ all_series all results.runs.items results.figures.items

-- TABLES

-- the line above the table of an alternative
unfoldable pub head_line : List ℕ → List ℕ
head_line name = codes "POINT " ++ name ++ codes "\n"

-- the head of an alternative of a name, what is told of its results, and an empty line
abbrev pub IsTableOf : List ℕ → Results → StudyRequest → ℕ → List ℕ → Type 0
IsTableOf name results request count text =
    (told : List ℕ) × IsTextOfResults results request count told
    × (text ≡ head_line name ++ told ++ codes "\n")

-- that, where tables are asked for
abbrev pub AddsTableIn : Form → StudyRequest → StudyPoint → Results → List ℕ → List ℕ → Type 0
AddsTableIn Table request a results old new = Adds (IsTableOf a.name.items results request a.spec.count) old new
AddsTableIn Csv request a results old new = new ≡ old
AddsTableIn (Picture figure) request a results old new = new ≡ old

-- where all went well, that is put behind a text
abbrev pub PutsTableIn : {E : Type 0} → Result (Unit {0}) E → Form → StudyRequest → StudyPoint → Results → Vec ℕ Global → Vec ℕ Global → Type 0
PutsTableIn result form request a results old new = OnOk result (AddsTableIn form request a results old.items new.items)

-- an alternative is run, as often and with the seeds that are asked for, and told
pub record TellsAlternative (form : Form) (request : StudyRequest) (a : StudyPoint) (point : Point) (old new : List ℕ) : Type 0 where
  pub results : Results
  pub runs : AreResultsOf a.spec request results
  pub point_is : IsPointBy request.all a.name.items results point
  pub table : AddsTableIn form request a results old new

-- all alternatives are, one after the other
unfoldable pub TellsAlternatives : Form → StudyRequest → List StudyPoint → List Point → List ℕ → List ℕ → Type 0
TellsAlternatives form request [] points old new = (points ≡ []) × (new ≡ old)
TellsAlternatives form request (a ∷ rest) points old new =
    (point : Point) × (others : List Point) × (middle : List ℕ) × (points ≡ point ∷ others)
    × TellsAlternative form request a point old middle × TellsAlternatives form request rest others middle new

-- where all went well, an alternative is told behind a text, and its point comes back
abbrev pub PutsAlternative : {E : Type 0} → Result Point E → Form → StudyRequest → StudyPoint → Vec ℕ Global → Vec ℕ Global → Type 0
PutsAlternative result form request a old new =
    IfOk result (λ point. TellsAlternative form request a point old.items new.items)

-- the same of alternatives
abbrev pub PutsAlternatives : {E : Type 0} → Result (Vec Point Global) E → Form → StudyRequest → List StudyPoint → Vec ℕ Global → Vec ℕ Global → Type 0
PutsAlternatives result form request alternatives old new =
    IfOk result (λ points. TellsAlternatives form request alternatives points.items old.items new.items)

-- DIFFERENCES

-- the differences of a point to the first, and an empty line
abbrev pub AddsBlock : Bool → Point → Point → List ℕ → List ℕ → Type 0
AddsBlock all first second old new =
    (told : List ℕ) × AddsDifferences all first second old told × (new ≡ told ++ 10 ∷ [])

-- those of all points behind the first
abbrev pub AddsAllDifferences : Bool → List Point → List ℕ → List ℕ → Type 0
AddsAllDifferences all [] old new = new ≡ old
AddsAllDifferences all (first ∷ rest) old new = AddsEach (AddsBlock all first) rest old new

-- what stands behind the tables: the differences, where tables are asked for; or the records of all points
abbrev pub AddsRest : Form → Bool → List Point → List ℕ → List ℕ → Type 0
AddsRest Table all points old new = AddsAllDifferences all points old new
AddsRest Csv all points old new = AddsSheet all points old new
AddsRest (Picture figure) all points old new = Unit {0}

-- THE WHOLE

-- what is told of alternatives: each is run, and what its runs say is told, and then the differences to the first
pub record AreTold (form : Form) (request : StudyRequest) (alternatives : List StudyPoint) (text : List ℕ) : Type 0 where
  pub points : List Point
  pub middle : List ℕ
  pub each : TellsAlternatives form request alternatives points [] middle
  pub rest : AddsRest form request.all points middle text

-- what answers about alternatives: they are told, or what is asked for is refused
abbrev pub IsAnswerAbout : Form → StudyRequest → List StudyPoint → List ℕ → ℕ → Type 0
IsAnswerAbout form request alternatives text status =
    ((status ≡ end_status) × AreTold form request alternatives text) ⊎ (status ≡ refusal_status)

-- the same where these are alternatives of a kind, or there are none
abbrev pub IsToldOr : (List StudyPoint → Type 0) → Form → StudyRequest → List ℕ → ℕ → Type 0
IsToldOr Are form request text status =
    ((alternatives : List StudyPoint) × Are alternatives × IsAnswerAbout form request alternatives text status)
    ⊎ (status ≡ refusal_status)

-- what is told of a model with the numbers that words give
abbrev pub IsStudyOfPoints : List ℕ → List (List ℕ) → Form → StudyRequest → List ℕ → ℕ → Type 0
IsStudyOfPoints bytes words form request text status =
    IsToldOr (ArePoints bytes words request.count) form request text status

-- and of two models
abbrev pub IsComparison : List ℕ → List ℕ → Form → StudyRequest → List ℕ → ℕ → Type 0
IsComparison first second form request text status =
    IsToldOr (AreModels first second request.count) form request text status
