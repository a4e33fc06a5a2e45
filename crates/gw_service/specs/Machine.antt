-- The service machine: every call as one, its reply, and the service after it.
use Rattle.std.specs.Prelude.{ℕ, List, [], ◌∷◌, length, Option, Some, None, Result, Ok, Err}
use Rattle.gw_step.specs.Job.{Job}
use Rattle.gw_service.specs.declared.faults.JobFault.{JobFault}
use Rattle.gw_service.specs.declared.progress.Progress.{Progress}
use Rattle.gw_service.specs.Rows.{Row}
use Rattle.gw_service.specs.Journal.{Event, Submit, Take, Return, Cancel, Service, with_event}
use Rattle.gw_service.specs.Calls.{Pass, submit_fault, poll_reply, collect_reply, cancel_fault, take_reply, Receipt, give_back_reply}

-- CALLS AND REPLIES

-- a call of a user or a worker
pub data Call : Type 0 where
  -- a user's job
  Submits : (user : ℕ) (job : Job) → Call
  Polls : (pass : Pass) → Call
  Collects : (pass : Pass) → Call
  Cancels : (pass : Pass) → Call
  -- a worker takes a task, and gives one back: for this slot, of this job, with so many steps
  Takes : Call
  GivesBack : (slot : ℕ) (job : Job) (steps : ℕ) → Call

-- what a call answers
pub data Reply : Type 0 where
  Refusal : (fault : JobFault) → Reply
  -- the slot of a new pass
  SlotReply : (slot : ℕ) → Reply
  ProgressReply : (progress : Progress) → Reply
  RowReply : (row : Row) → Reply
  -- a job is cancelled
  Assent : Reply
  -- the slot whose job goes out, if one is ready
  TaskReply : (slot : Option ℕ) → Reply
  -- nothing where the task comes back
  ReceiptReply : (receipt : Option Receipt) → Reply

-- a reply, unless there is a fault
abbrev pub unless : Option JobFault → Reply → Reply
unless None reply = reply
unless (Some fault) reply = Refusal fault

-- a refusal, or how far a job has come
abbrev pub tell_progress : Result Progress JobFault → Reply
tell_progress (Err fault) = Refusal fault
tell_progress (Ok p) = ProgressReply p

-- a refusal, or a row that is ended
abbrev pub tell_row : Result Row JobFault → Reply
tell_row (Err fault) = Refusal fault
tell_row (Ok r) = RowReply r

-- a refusal, or the slot that goes out
abbrev pub tell_task : Result (Option ℕ) JobFault → Reply
tell_task (Err fault) = Refusal fault
tell_task (Ok slot) = TaskReply slot

-- the reply to a call
abbrev pub reply : Call → Service → Reply
reply (Submits u j) s = unless (submit_fault u s) (SlotReply (length s.now.rows))
reply (Polls p) s = tell_progress (poll_reply p s)
reply (Collects p) s = tell_row (collect_reply p s)
reply (Cancels p) s = unless (cancel_fault p s) Assent
reply Takes s = tell_task (take_reply s)
reply (GivesBack k j n) s = ReceiptReply (give_back_reply k j n s)

-- EVENTS

-- an event, unless there is a fault
abbrev pub event_unless : Option JobFault → Event → Option Event
event_unless None e = Some e
event_unless (Some fault) e = None

-- the event of a take, by its answer
abbrev pub take_event : Result (Option ℕ) JobFault → Option Event
take_event (Err fault) = None
take_event (Ok None) = None
take_event (Ok (Some k)) = Some (Take k)

-- the event of a give-back, by its receipt
abbrev pub return_event : Option Receipt → Option Event
return_event None = None
return_event (Some receipt) = Some (Return receipt.slot receipt.steps)

-- the event that a call is, if it is one: a refusal, a poll, a collect, a take of nothing and a task that comes back are none
abbrev pub event_of : Call → Service → Option Event
event_of (Submits u j) s = event_unless (submit_fault u s) (Submit u j)
event_of (Polls p) s = None
event_of (Collects p) s = None
event_of (Cancels p) s = event_unless (cancel_fault p s) (Cancel p.slot)
event_of Takes s = take_event (take_reply s)
event_of (GivesBack k j n) s = return_event (give_back_reply k j n s)

-- the service after an event, if there is one
abbrev pub after_event : Option Event → Service → Service
after_event None s = s
after_event (Some e) s = with_event e s

-- the service after a call
abbrev pub next : Call → Service → Service
next c s = after_event (event_of c s) s

-- the service after a list of calls
abbrev pub all_next : List Call → Service → Service
all_next [] s = s
all_next (c ∷ cs) s = all_next cs (next c s)
