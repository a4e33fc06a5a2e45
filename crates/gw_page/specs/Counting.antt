-- How many steps a run makes.
use Rattle.std.specs.Prelude.{ℕ, ◌≤◌, ◌<◌, ℤ, pos, Bool, MatchBool, ◌^◌, ◌-◌}
use Rattle.gw_step.specs.State.{State}
use Rattle.gw_step.specs.Job.{Job, Alone, IsFinal}
use Rattle.gw_answers.specs.Running.{IsOver, IsStillAt}

-- no clock is past this
abbrev pub end_of_time : ℤ
end_of_time = pos (2 ^ 63 - 1)

-- a run is ended, or has made steps
abbrev pub EndsOrSteps : State → State → Bool → Type 0
EndsOrSteps old new ended = MatchBool ended (IsFinal new) (old.steps < new.steps)

-- after so many steps at the most the lone run is ended, or past a time
pub record TakesAtMost (time : ℤ) (most : ℕ) (j : Job) : Type 0 where
  pub state : State
  pub alone : Alone j state.steps state
  pub few : state.steps ≤ most
  pub over : IsOver time state

-- after so many steps it is neither
pub record TakesMore (time : ℤ) (most : ℕ) (j : Job) : Type 0 where
  pub state : State
  pub alone : Alone j most state
  pub still : IsStillAt time state

-- which of the two it is
abbrev pub IsCounted : ℤ → ℕ → Job → Bool → Type 0
IsCounted time most j short = MatchBool short (TakesAtMost time most j) (TakesMore time most j)
