-- The trace of a run: the lines of its steps, in order.
use Rattle.std.specs.Prelude.{◌≡◌, ◌&&◌, ℕ, zero, suc, ℤ, int_le, Bool, List, [], ◌++◌, codes, Option, Some, if◌then◌else◌}
use Rattle.gw_object.specs.declared.parts.Parts.{Parts}
use Rattle.gw_step.specs.State.{State}
use Rattle.gw_step.specs.Job.{Job, Progress, Alone, after, start_of}
use Rattle.gw_answers.specs.declared.answer.Answer.{Answer}
use Rattle.gw_answers.specs.Status.{end_status}
use Rattle.gw_answers.specs.Running.{IsOver}
use Rattle.gw_trace.specs.declared.sight.Sight.{Sight}
use Rattle.gw_trace.specs.declared.tracing.Window.{Window}
use Rattle.gw_trace.specs.Sights.{sight_of}
use Rattle.gw_trace.specs.Lines.{step_line}

-- whether a clock lies from one time to another, both included
abbrev pub is_within : ℤ → ℤ → ℤ → Bool
is_within from to clock = int_le from clock && int_le clock to

-- the line of the step from what was seen to t, where t's clock lies within
abbrev pub line_seen : Parts → ℤ → ℤ → Sight → State → List ℕ
line_seen p from to before t = if is_within from to t.clock then step_line p before t else []

-- the line of the step from s to t
abbrev pub line_within : Parts → ℤ → ℤ → State → State → List ℕ
line_within p from to s t = line_seen p from to (sight_of p s) t

-- the line of a step to where a job is, where its clock lies within a window, by what was seen before
abbrev pub sight_line : Window → Sight → Progress → List ℕ
sight_line window before p = line_seen p.job.parts window.from.0 window.to.0 before p.state

-- and by where the job was
abbrev pub window_line : Window → Progress → Progress → List ℕ
window_line window old new = line_within old.job.parts window.from.0 window.to.0 old.state new.state

-- the same, where there are such states
abbrev pub line_between : Parts → ℤ → ℤ → Option State → Option State → List ℕ
line_between p from to (Some s) (Some t) = line_within p from to s t
line_between p from to other another = []

-- the lines of the first n steps of a job's lone run, in order
unfoldable pub lines_of_steps : Job → ℤ → ℤ → ℕ → List ℕ
lines_of_steps j from to zero = []
lines_of_steps j from to (suc n) = lines_of_steps j from to n ++ line_between j.parts from to (after j n (start_of j)) (after j (suc n) (start_of j))

-- what the columns are
unfoldable pub heading : List ℕ
heading = codes "       CLOCK    XACT  BLOCK    CEC    FEC  DELAY  RETRY  WHAT\n"

-- the heading, and the lines of all steps that were made
abbrev pub HasTraced : ℤ → ℤ → Progress → List ℕ → Type 0
HasTraced from to p text = text ≡ heading ++ lines_of_steps p.job from to p.state.steps

-- the trace of a job's lone run from one time to another: the lines of all its steps up to a state at which it is over
pub record IsTrace (from to : ℤ) (j : Job) (text : List ℕ) : Type 0 where
  pub steps : ℕ
  pub state : State
  pub alone : Alone j steps state
  pub over : IsOver to state
  pub lines : text ≡ heading ++ lines_of_steps j from to steps

-- it answers, with the status of an end
abbrev pub AnswersTrace : Window → Job → Answer → Type 0
AnswersTrace window j a = (a.status ≡ end_status) × IsTrace window.from.0 window.to.0 j a.text.items
