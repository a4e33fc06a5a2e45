-- The calls of a service: what each answers, with its refusals in their order. Want of memory is no answer here: it may
-- come where there is no other refusal, and leaves the service as it was.
use Rattle.std.specs.Prelude.{◌≡◌, ℕ, ◌+◌, ◌^◌, List, [], ◌∷◌, length, Option, Some, None, Result, Ok, Err, Bool, nat_le, nat_lt, ◌&&◌, if◌then◌else◌}
use Rattle.std.specs.List.{slice_get}
use Rattle.gw_step.specs.Job.{Job}
use Rattle.gw_service.specs.declared.faults.JobFault.{JobFault}
use Rattle.gw_service.specs.declared.faults.JobFault.TheVariants as faults
use Rattle.gw_service.specs.declared.progress.State.{State}
use Rattle.gw_service.specs.declared.progress.State.TheVariants as states
use Rattle.gw_service.specs.declared.progress.Progress.{Progress}
use Rattle.gw_equality.specs.Jobs.{same_job}
use Rattle.gw_service.specs.Rows.{Standing, Ready, Out, Ended, Cancelled, CancelledOut, Row, is_out, is_ended, is_cancelled, returned_row, rows_of}
use Rattle.gw_service.specs.Rows.{running_in, own_row, out_of}
use Rattle.gw_service.specs.Journal.{Service}

-- LIMITS

-- a service has at most so many jobs in its life
abbrev pub most_jobs : ℕ
most_jobs = 1024

-- at most so many jobs of a user run at once
abbrev pub most_running : ℕ
most_running = 16

-- at most so many events are told by a journal
abbrev pub most_events : ℕ
most_events = 2 ^ 20

-- the places of the journal that are taken: one for each event, and one for each row that is out, which its return will take
abbrev pub places_of : Service → ℕ
places_of s = length s.journal + out_of s.now.rows

-- the journal has no place for so many more events
abbrev pub is_journal_full : ℕ → Service → Bool
is_journal_full need s = nat_lt most_events (places_of s + need)

-- REFUSALS

-- the first fault, else the second
abbrev pub first_fault : Option JobFault → Option JobFault → Option JobFault
first_fault None b = b
first_fault (Some fault) b = Some fault

-- a journal that is full stands against a call
abbrev pub journal_limit : Bool → Option JobFault
journal_limit full = if full then Some faults.JournalFull else None

-- the fault of an answer, if it is one
abbrev pub fault_in : {A : Type 0} → Result A JobFault → Option JobFault
fault_in (Err fault) = Some fault
fault_in (Ok a) = None

-- a call is refused so: by its own fault; where it has none, for want of memory
abbrev pub Refuses : Option JobFault → JobFault → Type 0
Refuses (Some fault) answer = answer ≡ fault
Refuses None answer = answer ≡ faults.Memory

-- PASSES

-- what a user has for a job: its slot, and the job itself
pub record Pass : Type 0 where
  pub user : ℕ
  pub slot : ℕ
  pub job : Job

-- the user's row in a slot, if there is one (else NotYours) and it has this job (else Stranger)
abbrev pub admit : Job → Option Row → Result Row JobFault
admit j None = Err faults.NotYours
admit j (Some r) = if same_job r.job j then Ok r else Err faults.Stranger

-- the row of a pass among rows
abbrev pub row_in : Pass → List Row → Result Row JobFault
row_in p rows = admit p.job (own_row p.user (slice_get rows p.slot))

-- the row of a pass in a service
abbrev pub row_for : Pass → Service → Result Row JobFault
row_for p s = row_in p s.now.rows

-- SUBMIT: UserFull, ServiceFull, JournalFull

-- as many of a user's jobs run as may
abbrev pub is_user_full : List Row → Bool
is_user_full rows = nat_le most_running (running_in rows)

-- what all users share stands against a submit: first the slots, then a journal that is full
abbrev pub submit_limit : List Row → Bool → Option JobFault
submit_limit rows full = if nat_le most_jobs (length rows) then Some faults.ServiceFull else journal_limit full

-- the first refusal of a submit, by the rows and whether the journal is full
abbrev pub submit_refusal : ℕ → List Row → Bool → Option JobFault
submit_refusal u rows full = if is_user_full (rows_of u rows) then Some faults.UserFull else submit_limit rows full

-- the first refusal of a submit, if there is one
abbrev pub submit_fault : ℕ → Service → Option JobFault
submit_fault u s = submit_refusal u s.now.rows (is_journal_full 1 s)

-- the pass that a submit makes
abbrev pub new_pass : ℕ → Job → Service → Pass
new_pass u j s = record { user = u; slot = length s.now.rows; job = j }

-- POLL: NotYours, Stranger

-- a row that was cancelled while out is told as cancelled
abbrev pub state_for : Standing → State
state_for Ready = states.Ready
state_for Out = states.Out
state_for Ended = states.Ended
state_for Cancelled = states.Cancelled
state_for CancelledOut = states.Cancelled

-- how far the job of a row has come, if there is a row
abbrev pub progress_of : Result Row JobFault → Result Progress JobFault
progress_of (Err fault) = Err fault
progress_of (Ok r) = Ok (record { state = state_for r.standing; steps = r.steps })

-- what a poll answers
abbrev pub poll_reply : Pass → Service → Result Progress JobFault
poll_reply p s = progress_of (row_for p s)

-- COLLECT: NotYours, Stranger, Cancelled, NotEnded

-- a row, if it is ended, by how it stands
abbrev pub if_ended : Row → Standing → Result Row JobFault
if_ended r Ready = Err faults.NotEnded
if_ended r Out = Err faults.NotEnded
if_ended r Ended = Ok r
if_ended r Cancelled = Err faults.Cancelled
if_ended r CancelledOut = Err faults.Cancelled

-- the same of a row, if there is one
abbrev pub ended_row : Result Row JobFault → Result Row JobFault
ended_row (Err fault) = Err fault
ended_row (Ok r) = if_ended r r.standing

-- what a collect answers: the row whose final state is told
abbrev pub collect_reply : Pass → Service → Result Row JobFault
collect_reply p s = ended_row (row_for p s)

-- CANCEL: NotYours, Stranger, Cancelled, AlreadyEnded, JournalFull

-- why a row may not be cancelled, by how it stands, if it may not
abbrev pub standing_fault : Standing → Option JobFault
standing_fault Ready = None
standing_fault Out = None
standing_fault Ended = Some faults.AlreadyEnded
standing_fault Cancelled = Some faults.Cancelled
standing_fault CancelledOut = Some faults.Cancelled

-- the same of a row, if there is one
abbrev pub own_cancel_fault : Result Row JobFault → Option JobFault
own_cancel_fault (Err fault) = Some fault
own_cancel_fault (Ok r) = standing_fault r.standing

-- the first refusal of a cancel, by the rows and whether the journal is full
abbrev pub cancel_refusal : Pass → List Row → Bool → Option JobFault
cancel_refusal p rows full = first_fault (own_cancel_fault (row_in p rows)) (journal_limit full)

-- the first refusal of a cancel, if there is one
abbrev pub cancel_fault : Pass → Service → Option JobFault
cancel_fault p s = cancel_refusal p s.now.rows (is_journal_full 1 s)

-- TAKE: nothing where nothing is ready, JournalFull

-- the first of a ready list, if it has one, unless the journal is full
abbrev pub take_from : List ℕ → Bool → Result (Option ℕ) JobFault
take_from [] full = Ok None
take_from (k ∷ ks) full = if full then Err faults.JournalFull else Ok (Some k)

-- what a take answers: the slot that goes out, if one is ready; its event and its return need a place each
abbrev pub take_reply : Service → Result (Option ℕ) JobFault
take_reply s = take_from s.now.ready (is_journal_full 2 s)

-- a take is refused so: want of memory comes where a slot would go out, and not where nothing is ready
abbrev pub RefusesTake : Result (Option ℕ) JobFault → JobFault → Type 0
RefusesTake (Err fault) answer = answer ≡ fault
RefusesTake (Ok None) answer = ⊥
RefusesTake (Ok (Some k)) answer = answer ≡ faults.Memory

-- GIVE BACK

-- what is told of a row that came back: its slot, its user, its steps, whether it is ended, and whether it was cancelled
pub record Receipt : Type 0 where
  pub slot : ℕ
  pub user : ℕ
  pub steps : ℕ
  pub ended : Bool
  pub cancelled : Bool

-- what is told of a row in a slot, now that it came back
abbrev pub receipt_of : ℕ → Row → Receipt
receipt_of k r = record { slot = k; user = r.user; steps = r.steps; ended = is_ended r.standing; cancelled = is_cancelled r.standing }

-- a task of this job with so many steps is taken back for a row: that is out, has this job, and had no more steps when it was taken
abbrev pub fits_row : Job → ℕ → Row → Bool
fits_row j n r = is_out r.standing && same_job r.job j && nat_le r.steps n

-- what is told of a task with so many steps, if there is a row that it fits
abbrev pub receipt_for : ℕ → Job → ℕ → Option Row → Option Receipt
receipt_for k j n None = None
receipt_for k j n (Some r) = if fits_row j n r then Some (receipt_of k (returned_row n r)) else None

-- what a give-back answers: the task's receipt, or nothing where the task comes back
abbrev pub give_back_reply : ℕ → Job → ℕ → Service → Option Receipt
give_back_reply k j n s = receipt_for k j n (slice_get s.now.rows k)
