-- A run, looked at 500 times, and what it was like in between.
use Rattle.std.specs.Prelude.{◌≡◌, ℕ, ◌+◌, ◌<◌, ℤ, ◌≤ℤ◌, List, [], length, slice_index_or}
use Rattle.gw_step.specs.State.{State}
use Rattle.gw_step.specs.Job.{Job, Alone}
use Rattle.gw_answers.specs.Running.{AreStillAt, IsOver}
use Rattle.gw_chart.specs.declared.bands.Band.{Band}
use Rattle.gw_chart.specs.declared.window.Window.{Window}
use Rattle.gw_chart.specs.Contents.{contents_from, value_in}
use Rattle.gw_chart.specs.Bands.{band_in}
use Rattle.gw_chart.specs.Windows.{moment}

-- what stood in each entity at a time: what is there in the first state of the lone run whose clock is past the time,
-- or that has ended; where the clock moves nothing changes in entities
pub record StoodAt (j : Job) (time : ℤ) (row : List ℤ) : Type 0 where
  pub steps : ℕ
  pub state : State
  pub alone : Alone j steps state
  pub over : IsOver time state
  pub first : AreStillAt j time 0 steps
  pub contents : row ≡ contents_from state 0 j.parts.entities

-- a row for each moment of a window
pub record AreSamples (j : Job) (w : Window) (rows : List (List ℤ)) : Type 0 where
  pub count : length rows ≡ 500
  pub each : (i : ℕ) → i < 500 → StoodAt j (moment w i) (slice_index_or rows i [])

-- a value stood in the entity of a number at a time from one to another, both included
pub record HasStood (j : Job) (from to : ℤ) (e : ℕ) (value : ℤ) : Type 0 where
  pub time : ℤ
  pub least : from ≤ℤ time
  pub most : time ≤ℤ to
  pub row : List ℤ
  pub stood : StoodAt j time row
  pub value_is : value_in row e ≡ value

-- the least and the greatest of what stood in the entity of a number at all times from one to another, both included
pub record IsBand (j : Job) (from to : ℤ) (e : ℕ) (band : Band) : Type 0 where
  pub covered : (value : ℤ) → HasStood j from to e value → (band.least ≤ℤ value) × (value ≤ℤ band.greatest)
  pub least : HasStood j from to e band.least
  pub greatest : HasStood j from to e band.greatest

-- those of each entity
abbrev pub AreBands : Job → ℤ → ℤ → List Band → Type 0
AreBands j from to bands = (e : ℕ) → e < length j.parts.entities → IsBand j from to e (band_in bands e)

-- those from each moment of a window to the next
pub record AreAllBands (j : Job) (w : Window) (all : List (List Band)) : Type 0 where
  pub count : length all ≡ 499
  pub each : (i : ℕ) → i < 499 → AreBands j (moment w i) (moment w (i + 1)) (slice_index_or all i [])
