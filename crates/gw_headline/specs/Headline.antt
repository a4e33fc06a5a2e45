-- The headline: verified objects run without an error stop, alone and under every schedule.
use Rattle.std.specs.Prelude.{◌≡◌, ℕ, ◌+◌, ◌≤◌, List, sum, Some, None}
use Rattle.std.specs.List.{slice_get}
use Rattle.gw_step.specs.State.{State}
use Rattle.gw_step.specs.Weight.{weight}
use Rattle.gw_step.specs.Job.{Job, JobFits, Step, IsStuck, Alone}
use Rattle.gw_step.specs.Moments.{SameMoment}
use Rattle.gw_service.specs.Rows.{Row}
use Rattle.gw_service.specs.Journal.{Event, Service, HasState, IsHistory, AllSubmitAccepted, replay}
use Rattle.gw_service.specs.Keeping.{IsKept}

-- JOBS

-- a job meets no error stop: none of the states that its lone run has is stuck
abbrev pub MeetsNoErrorStop : Job → Type 0
MeetsNoErrorStop j = (n : ℕ) (s : State) → Alone j n s → IsStuck j s → ⊥

-- it goes on until a named end stands: each of these states that still runs has a step
abbrev pub GoesOn : Job → Type 0
GoesOn j = (n : ℕ) (s : State) → Alone j n s → s.ended ≡ None → (t : State) × Step j s t

-- the number of steps tells the state
abbrev pub IsDetermined : Job → Type 0
IsDetermined j = (n : ℕ) (s t : State) → Alone j n s → Alone j n t → s ≡ t

-- between two of these states, of one clock moment, at most as many block entries are made as the first one weighs
abbrev pub EntersWithinWeight : Job → Type 0
EntersWithinWeight j = (s t : State) → SameMoment j s t → sum t.entries ≤ sum s.entries + weight j.parts s

-- a job that runs safely, whoever runs it, and in whatever slices
pub record RunsSafely (j : Job) : Type 0 where
  -- it has a start
  pub starts : HasState j 0
  pub never : MeetsNoErrorStop j
  pub goes_on : GoesOn j
  pub determined : IsDetermined j
  pub within : EntersWithinWeight j

-- each job of an accepted object, with seeds, a count and a budget in their ranges, runs safely, whether it was submitted or not
abbrev pub AcceptedJobsRunSafely : Type 0
AcceptedJobsRunSafely = (j : Job) → JobFits j → RunsSafely j

-- ROWS

-- the lone run of a row's job has a state after as many steps as the row has; and the job runs safely, from there on too, in the hands of a worker
pub record IsVerifiedRow (r : Row) : Type 0 where
  pub state : HasState r.job r.steps
  pub safe : RunsSafely r.job

-- after every list of events that may come, in which accepted objects are submitted, each row is so
abbrev pub VerifiedObjectsRunSafely : Type 0
VerifiedObjectsRunSafely =
    (events : List Event) (slot : ℕ) (r : Row) → IsHistory events → AllSubmitAccepted events → slice_get (replay events).rows slot ≡ Some r → IsVerifiedRow r

-- so it is of each row of a service in hand whose journal tells such events: a table has in its type that it is one
abbrev pub ServicesRunSafely : Type 0
ServicesRunSafely = (s : Service) (slot : ℕ) (r : Row) → IsKept s → AllSubmitAccepted s.journal → slice_get s.now.rows slot ≡ Some r → IsVerifiedRow r
