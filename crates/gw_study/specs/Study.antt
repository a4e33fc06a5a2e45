-- What a study of a model text tells.
use Rattle.std.specs.Prelude.{◌≡◌, ◌⊎◌, ◌<◌, ◌+◌, ◌^◌, ℕ, List, [], ◌++◌, length}
use Rattle.gw_object.specs.declared.fault.Fault.{Fault}
use Rattle.gw_step.specs.Job.{Job}
use Rattle.gw_scan.specs.Making.{job_from}
use Rattle.gw_scan.specs.declared.spec.StartFault.TheVariants.{Count}
use Rattle.gw_answers.specs.Status.{end_status, refusal_status}
use Rattle.gw_answers.specs.Refusal.{refusal_line, start_refusal}
use Rattle.gw_answers.specs.ModelJobs.{IsJobOf, IsRefusalOf}
use Rattle.gw_figures.specs.Labels.{Label, labels, labels_of}
use Rattle.gw_figures.specs.declared.run.Run.{Run}
use Rattle.gw_study.specs.declared.request.StudyRequest.{StudyRequest}
use Rattle.gw_study.specs.declared.telling.Results.{Results}
use Rattle.gw_study.specs.Requests.{first_run}
use Rattle.gw_study.specs.Runs.{AreRunsFrom}
use Rattle.gw_study.specs.Streams.{streams_text}
use Rattle.gw_study.specs.Table.{IsTable}

-- the job of a text's object with this count
abbrev pub with_count : Job → ℕ → Job
with_count j count = job_from j.parts [] count j.budget

-- so many runs of a job's object, in order, with the figures of its model
pub record AreResultsOf (j : Job) (request : StudyRequest) (results : Results) : Type 0 where
  pub figures : labels results.figures.items ≡ labels_of j.parts
  pub number : length results.runs.items ≡ request.runs
  pub runs : AreRunsFrom j request.from (first_run request) results.runs.items

-- the table of figures and runs of this count, and the lines of streams that may have come to where the next
-- begins
pub record IsResultsText (figures : List Label) (runs : List Run) (request : StudyRequest) (count : ℕ) (text : List ℕ) : Type 0 where
  pub table : List ℕ
  pub told : IsTable figures runs request count table
  pub whole : text ≡ table ++ streams_text runs

-- the same of the figures and runs of results
abbrev pub IsTextOfResults : Results → StudyRequest → ℕ → List ℕ → Type 0
IsTextOfResults results request count text =
    IsResultsText (labels results.figures.items) results.runs.items request count text

-- the runs of a job's object from one number to another, but not that one, with the figures of its model
pub record AreResultsBetween (j : Job) (from first end : ℕ) (results : Results) : Type 0 where
  pub figures : labels results.figures.items ≡ labels_of j.parts
  pub number : first + length results.runs.items ≡ end
  pub runs : AreRunsFrom j from first results.runs.items

-- what is told of the runs that are asked for of a job's object
abbrev pub IsTold : Job → StudyRequest → List ℕ → Type 0
IsTold j request text =
    (runs : List Run) × (length runs ≡ request.runs)
    × AreRunsFrom j request.from (first_run request) runs
    × IsResultsText (labels_of j.parts) runs request j.count text

-- the job of a text with this count
abbrev pub IsCountedJob : List ℕ → ℕ → Job → Type 0
IsCountedJob bytes count job = (j : Job) × IsJobOf bytes j × (job ≡ with_count j count)

-- a count is refused where it is above 2^40
abbrev pub IsCountRefusal : ℕ → Fault → Type 0
IsCountRefusal count fault = (2 ^ 40 < count) × (fault ≡ start_refusal Count)

-- why a text has no study: it is refused, or the count is above 2^40
abbrev pub IsStudyRefusal : List ℕ → ℕ → Fault → Type 0
IsStudyRefusal bytes count fault = IsRefusalOf bytes fault ⊎ IsCountRefusal count fault

-- what is told of a text: the table of its job's runs, or why there is none
abbrev pub IsStudy : List ℕ → StudyRequest → List ℕ → ℕ → Type 0
IsStudy bytes request text status =
    ((status ≡ end_status) × ((j : Job) × IsCountedJob bytes request.count j × IsTold j request text))
    ⊎ ((status ≡ refusal_status) × ((fault : Fault) × IsStudyRefusal bytes request.count fault × (text ≡ refusal_line fault)))
