-- What calls of `step` and `run_slice` answer.
use Rattle.std.specs.Prelude.{◌≡◌, ◌≢◌, ℕ, ◌+◌, ◌≤◌, sum, Option, Some, None, is_some, true}
use Rattle.gw_step.specs.declared.ends.End.{End}
use Rattle.gw_scan.specs.declared.sim.Status.{Status}
use Rattle.gw_scan.specs.declared.slices.Slice.{Slice}
use Rattle.gw_scan.specs.declared.sim.Status.TheVariants.{Running, Ended}
use Rattle.gw_machine.specs.Configuration.{Configuration}
use Rattle.gw_scan.specs.SimView.{progress_on}
use Rattle.gw_step.specs.State.{State}
use Rattle.gw_step.specs.Job.{Job, Progress, Step, IsReached}
use Rattle.gw_step.specs.Weight.{weight}

-- running, or the named end that stands
abbrev pub status_at : Option End → Status
status_at None = Running
status_at (Some end) = Ended end

-- a final state stays, and its end is answered; a running state makes its step, and what then stands is answered
abbrev pub AnswersFrom : Option End → Status → Job → State → State → Type 0
AnswersFrom (Some end) status j old new = (status ≡ Ended end) × (new ≡ old)
AnswersFrom None Running j old new = Step j old new × (new.ended ≡ None)
AnswersFrom None (Ended end) j old new = Step j old new × (new.ended ≡ Some end)

-- this status is right for a call in the old state that leaves the new one
abbrev pub Answers : Status → Job → State → State → Type 0
Answers status j old new = AnswersFrom old.ended status j old new

-- while the clock stands, what the state weighs and the entries made so far are together at most what they were
abbrev pub StaysPaid : Progress → Progress → Type 0
StaysPaid old new =
    new.state.clock ≡ old.state.clock → weight old.job.parts new.state + sum new.state.entries ≤ weight old.job.parts old.state + sum old.state.entries

-- so many of these steps were made: all of them, or fewer where the job is ended
pub record IsSlice (steps : ℕ) (slice : Slice) : Type 0 where
  pub most : slice.made ≤ steps
  pub all : slice.made ≢ steps → slice.ended ≡ true

-- the slice says what was made of these steps, from the old progress to the new one
pub record MakesSlice (steps : ℕ) (old new : Progress) (slice : Slice) : Type 0 where
  pub made : new.state.steps ≡ old.state.steps + slice.made
  pub all : IsSlice steps slice
  pub ended : slice.ended ≡ is_some new.state.ended

-- the same of a job on a machine
abbrev pub MakesSliceOn : Job → ℕ → Configuration → Configuration → Slice → Type 0
MakesSliceOn j steps old new slice = MakesSlice steps (progress_on j old) (progress_on j new) slice

-- a job makes so many steps at most
pub record Advances (steps : ℕ) (old new : Progress) : Type 0 where
  pub job : new.job ≡ old.job
  pub rise : old.state.steps ≤ new.state.steps
  pub most : new.state.steps ≤ old.state.steps + steps
  pub reached : IsReached new
