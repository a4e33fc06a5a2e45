-- What the calls of a table answer, and what they make of the two totals.
use Rattle.std.specs.Prelude.{◌≡◌, ℕ, ◌+◌, ◌≤◌, List, Option, Some, None, Result, Ok, Err, true}
use Rattle.std.specs.List.{slice_get}
use Rattle.gw_step.specs.State.{State}
use Rattle.gw_step.specs.Job.{Job, Progress, Alone}
use Rattle.gw_report.specs.Report.{report_of}
use Rattle.gw_service.specs.declared.faults.JobFault.{JobFault}
use Rattle.gw_service.specs.Rows.{Row, is_out, out_of, steps_of, change_row, returned_row}
use Rattle.gw_service.specs.Journal.{Service, Take, Return, with_event}
use Rattle.gw_service.specs.Calls.{Pass, collect_reply, take_reply, Receipt, receipt_of, fits_row, receipt_for, give_back_reply}
use Rattle.gw_service.specs.Keeping.{steps_in}
use Rattle.gw_jobs.specs.declared.replies.Reply.{Reply}
use Rattle.gw_jobs.specs.Passes.{Task, steps_made}

-- COLLECT

-- a reply tells this job after so many steps: the state of its lone run there, its end, and its report
pub record IsReplyOf (j : Job) (n : ℕ) (r : Reply) : Type 0 where
  pub spec : r.spec ≡ j
  pub steps : r.steps ≡ n
  pub state : State
  pub alone : Alone j n state
  pub ended : state.ended ≡ Some r.end
  pub report : r.report.items ≡ report_of (record { job = j; state = state })

-- a reply to a pass of this job tells it after the steps of the row that is collected
abbrev pub IsCollected : Job → Result Row JobFault → Reply → Type 0
IsCollected j (Err fault) reply = ⊥
IsCollected j (Ok r) reply = IsReplyOf j r.steps reply

-- two replies tell the same: the job, its steps, its end, and the report byte for byte
pub record TellTheSame (a b : Reply) : Type 0 where
  pub spec : a.spec ≡ b.spec
  pub steps : a.steps ≡ b.steps
  pub end : a.end ≡ b.end
  pub report : a.report.items ≡ b.report.items

-- whatever services two replies come from, and for whichever passes: where the rows that are collected are equal, they tell the same
abbrev pub EqualRowsAreToldAlike : Type 0
EqualRowsAreToldAlike =
    (p q : Pass) (s t : Service) (r : Row) (a b : Reply) → collect_reply p s ≡ Ok r → collect_reply q t ≡ Ok r
    → IsCollected p.job (collect_reply p s) a → IsCollected q.job (collect_reply q t) b → TellTheSame a b

-- TAKE

-- this task has the row that is taken: its slot, its job, and a state after its steps
pub record IsTaken (t : Task) (s : Service) : Type 0 where
  pub takes : take_reply s ≡ Ok (Some t.slot)
  pub row : Row
  pub here : slice_get s.now.rows t.slot ≡ Some row
  pub job : t.sim.job ≡ row.job
  pub steps : t.sim.state.steps ≡ row.steps

-- what a take answers: nothing where nothing is ready, else the task of the row that is taken
abbrev pub AnswersTake : Service → Option Task → Type 0
AnswersTake s None = take_reply s ≡ Ok None
AnswersTake s (Some t) = IsTaken t s

-- the service after a take: as it was, or with the event of the take
abbrev pub after_take : Option Task → Service → Service
after_take None s = s
after_take (Some t) s = with_event (Take t.slot) s

-- a state of a row's job, after the row's steps
abbrev pub IsStateIn : Progress → Option Row → Type 0
IsStateIn sim None = ⊥
IsStateIn sim (Some r) = (sim.job ≡ r.job) × (sim.state.steps ≡ r.steps)

-- one row more is out, and as many steps as before were given back
pub record GoesOut (old new : Service) : Type 0 where
  pub out : out_of new.now.rows ≡ out_of old.now.rows + 1
  pub steps : steps_of new.now.rows ≡ steps_of old.now.rows

-- the two totals after a take: nothing changed, or one row more is out
abbrev pub CountsTake : Option Task → Service → Service → Type 0
CountsTake None old new = new ≡ old
CountsTake (Some t) old new = GoesOut old new

-- GIVE BACK

-- a row that is out, of this job
abbrev pub IsOutWith : Job → Option Row → Type 0
IsOutWith j None = ⊥
IsOutWith j (Some r) = (j ≡ r.job) × (is_out r.standing ≡ true)

-- a row that a task of this job with n steps fits, and that had so many steps when it was taken
abbrev pub Fits : Job → ℕ → ℕ → Option Row → Type 0
Fits j n before None = ⊥
Fits j n before (Some r) = (fits_row j n r ≡ true) × (before ≡ r.steps)

-- what is told of a task that is given back, or nothing where the task comes back
abbrev pub reply_to : Task → Service → Option Receipt
reply_to t s = give_back_reply t.slot t.sim.job (steps_made t) s

-- the service after the return of a task
abbrev pub after_return : Task → Service → Service
after_return t s = with_event (Return t.slot (steps_made t)) s

-- the rows after it
abbrev pub rows_back : Task → List Row → List Row
rows_back t rows = change_row t.slot (returned_row (steps_made t)) rows

-- the steps at the take of the row in a task's slot, or none where the task fits no row
abbrev pub AnswersFit : Task → Option Row → Option ℕ → Type 0
AnswersFit t o None = receipt_for t.slot t.sim.job (steps_made t) o ≡ None
AnswersFit t o (Some before) = Fits t.sim.job (steps_made t) before o

-- what is told of a row that is there
abbrev pub IsReceiptOf : ℕ → Receipt → Option Row → Type 0
IsReceiptOf k receipt None = ⊥
IsReceiptOf k receipt (Some r) = receipt ≡ receipt_of k r

-- the steps of the row in a slot
abbrev pub steps_at : ℕ → Service → ℕ
steps_at k s = steps_in (slice_get s.now.rows k)

-- one row fewer is out, and the steps given back are more by those since the take of the row in slot k, which has n steps now: they never fall
pub record ComesBack (k n : ℕ) (old new : Service) : Type 0 where
  pub out : out_of new.now.rows + 1 ≡ out_of old.now.rows
  pub steps : steps_of new.now.rows + steps_at k old ≡ steps_of old.now.rows + n
  pub rise : steps_of old.now.rows ≤ steps_of new.now.rows
