-- The runs of a study: what the values of each are made of.
use Rattle.std.specs.Prelude.{◌≡◌, ◌⊎◌, ◌<◌, Bool, ℕ, ◌+◌, ◌-◌, ◌/◌, ◌==◌, List, [], ◌∷◌, pos, ◌<ℤ◌, ◌≤ℤ◌, Some, length, Result, IfOk, Vec}
use Rattle.std.specs.Global.{Global}
use Rattle.gw_object.specs.declared.parts.Parts.{Parts}
use Rattle.gw_step.specs.declared.ends.End.{End}
use Rattle.gw_step.specs.State.{State}
use Rattle.gw_step.specs.Job.{Job, Alone, IsFinal}
use Rattle.gw_scan.specs.Making.{job_from}
use Rattle.gw_report.specs.Figures.{figures_of}
use Rattle.gw_figures.specs.Windows.{Span}
use Rattle.gw_figures.specs.Values.{values_of}
use Rattle.gw_figures.specs.Labels.{Label, labels, labels_of}
use Rattle.gw_figures.specs.Trends.{changes}
use Rattle.gw_figures.specs.declared.run.Run.{Run}
use Rattle.gw_answers.specs.Status.{run_budget}
use Rattle.gw_study.specs.declared.one_run.Stops.{Stops}
use Rattle.gw_study.specs.declared.runs.Setup.{Setup}
use Rattle.gw_study.specs.Seeds.{seeds_of_run}
use Rattle.gw_study.specs.Streams.{overdraws_of}

-- STATES OF A RUN

-- before a state of the lone run more than this was left to count
abbrev pub IsBeforeCount : Job → ℕ → ℕ → Type 0
IsBeforeCount j left steps = (k : ℕ) (t : State) → k < steps → Alone j k t → pos left <ℤ t.count

-- the first state of the lone run in which no more than this is left to count, or the last of all
pub record IsFirstWith (j : Job) (left : ℕ) (s : State) : Type 0 where
  pub alone : Alone j s.steps s
  pub here : (s.count ≤ℤ pos left) ⊎ IsFinal s
  pub first : IsBeforeCount j left s.steps

-- the last state of the lone run
pub record IsLast (j : Job) (s : State) : Type 0 where
  pub alone : Alone j s.steps s
  pub final : IsFinal s

-- WHAT IS KEPT OF A RUN

-- what is left to count where a window begins, and in its middle
abbrev pub left_at_start : Job → ℕ → ℕ
left_at_start j from = j.count - from

abbrev pub left_halfway : Job → ℕ → ℕ
left_halfway j from = left_at_start j from / 2

-- the window from one state to another, which may be the whole run
abbrev pub window : Job → ℕ → State → State → Span
window j from s t =
    record {
      whole = from == 0;
      start = figures_of (record { job = j; state = s });
      end = figures_of (record { job = j; state = t });
    }

-- what is kept of a run: its end and steps; the values of the window from the first state in which so
-- many are counted to the last state; by how much averages and contents change from its first half to its
-- second; and the streams from which it may have drawn more numbers than are their own
pub record IsRunOf (j : Job) (from : ℕ) (run : Run) : Type 0 where
  pub start : State
  pub middle : State
  pub last : State
  pub starts : IsFirstWith j (left_at_start j from) start
  pub halfway : IsFirstWith j (left_halfway j from) middle
  pub ends : IsLast j last
  pub end : last.ended ≡ Some run.end
  pub steps : run.steps ≡ last.steps
  pub values : run.values.items ≡ values_of j.parts (window j from start last)
  pub trend : run.trend.items
      ≡ changes (labels_of j.parts) (values_of j.parts (window j from start middle))
      (values_of j.parts (window j from middle last))
  pub overdraws : run.overdraws.items ≡ overdraws_of j.parts run.steps run.values.items

-- the same of a run that ended so, by the figures of these states
pub record IsKept (parts : Parts) (figures : List Label) (whole : Bool) (by_end : End) (stops : Stops) (run : Run) : Type 0 where
  pub end : run.end ≡ by_end
  pub steps : run.steps ≡ stops.last.steps
  pub values : run.values.items ≡ values_of parts (record { whole = whole; start = stops.start; end = stops.last })
  pub trend : run.trend.items
      ≡ changes figures (values_of parts (record { whole = whole; start = stops.start; end = stops.middle }))
      (values_of parts (record { whole = whole; start = stops.middle; end = stops.last }))
  pub overdraws : run.overdraws.items ≡ overdraws_of parts run.steps run.values.items

-- OF A JOB'S OBJECT

-- the job of a run: that of the same object, count and budget, with the seeds of the run
abbrev pub run_job : Job → ℕ → Job
run_job j run = job_from j.parts (seeds_of_run run) j.count j.budget

-- these are the runs of a job's object from one on, in order
abbrev pub AreRunsFrom : Job → ℕ → ℕ → List Run → Type 0
AreRunsFrom j from k [] = Unit {0}
AreRunsFrom j from k (run ∷ runs) = IsRunOf (run_job j k) from run × AreRunsFrom j from (k + 1) runs

-- IN CODE

-- the budget of a setup's job is that of a run, and its figures are those of the model
pub record IsSetUp (setup : Setup) : Type 0 where
  pub budget : setup.spec.now.budget ≡ run_budget
  pub figures : labels setup.figures.now ≡ labels_of setup.spec.now.parts

-- where all went well, these are the runs of a setup from one on, up to another but not that one
abbrev pub AreRunsOf : {E : Type 0} → Setup → ℕ → ℕ → Result (Vec Run Global) E → Type 0
AreRunsOf setup first end made =
    IfOk made (λ runs. (first + length runs.items ≡ end)
    × AreRunsFrom setup.spec.now setup.from first runs.items)
