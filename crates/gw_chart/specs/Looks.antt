-- A run while it is looked at.
use Rattle.std.specs.Prelude.{◌≡◌, ℤ, ◌≤ℤ◌, List, length}
use Rattle.gw_step.specs.State.{State}
use Rattle.gw_step.specs.Job.{Job, Alone}
use Rattle.gw_answers.specs.Running.{AreStillAt, IsOver}
use Rattle.gw_chart.specs.declared.bands.Band.{Band}
use Rattle.gw_chart.specs.Samples.{AreBands}

-- a run that is looked at from one time to another, as far as it has come: it has just gone past a time, and has the bands up to it
pub record HasLooked (j : Job) (from to : ℤ) (s : State) (bands : List Band) : Type 0 where
  pub count : length bands ≡ length j.parts.entities
  pub alone : Alone j s.steps s
  pub time : ℤ
  pub begun : from ≤ℤ time
  pub within : time ≤ℤ to
  pub over : IsOver time s
  pub still : AreStillAt j time 0 s.steps
  pub bands_are : AreBands j from time bands
