-- How far a run is asked for.
use Rattle.std.specs.Prelude.{◌≡◌, ◌⊎◌, ℕ, ◌≤◌, ◌<◌, ℤ, ◌<ℤ◌, ◌≤ℤ◌, None}
use Rattle.gw_step.specs.State.{State}
use Rattle.gw_step.specs.Job.{Job, Alone, IsFinal}

-- it runs, and its clock isn't past a time
pub record IsStillAt (time : ℤ) (s : State) : Type 0 where
  pub runs : s.ended ≡ None
  pub clock : s.clock ≤ℤ time

-- a named end stands, or its clock is past a time
abbrev pub IsOver : ℤ → State → Type 0
IsOver time s = IsFinal s ⊎ (time <ℤ s.clock)

-- the states that the lone run has after so many steps, and up to fewer than so many, are all still at a time
abbrev pub AreStillAt : Job → ℤ → ℕ → ℕ → Type 0
AreStillAt j time from to = (k : ℕ) (t : State) → from ≤ k → k < to → Alone j k t → IsStillAt time t
