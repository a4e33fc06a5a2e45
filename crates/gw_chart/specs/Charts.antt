-- The charts of a job's run.
use Rattle.std.specs.Prelude.{◌≡◌, ℕ, ℤ, List}
use Rattle.gw_step.specs.State.{State}
use Rattle.gw_step.specs.Job.{Job, Alone, IsFinal}
use Rattle.gw_chart.specs.declared.window.Window.{Window}
use Rattle.gw_chart.specs.declared.charting.Form.{Form}
use Rattle.gw_chart.specs.declared.charting.Form.TheVariants.{Picture, Sheet}
use Rattle.gw_chart.specs.Windows.{clip}
use Rattle.gw_chart.specs.declared.bands.Band.{Band}
use Rattle.gw_chart.specs.Samples.{AreSamples, AreAllBands}
use Rattle.gw_chart.specs.Document.{document}
use Rattle.gw_chart.specs.Sheets.{sheet}

-- the clock at the end of the lone run of a job
pub record EndsAt (j : Job) (clock : ℤ) : Type 0 where
  pub steps : ℕ
  pub state : State
  pub alone : Alone j steps state
  pub final : IsFinal state
  pub clock_is : state.clock ≡ clock

-- the document of a window of the lone run of a job, under a name, by its last state, what stood in each entity at 500
-- moments of the window, and the least and the greatest of what stood between two of them
pub record IsChart (window : Window) (name : List ℕ) (j : Job) (text : List ℕ) : Type 0 where
  pub steps : ℕ
  pub state : State
  pub alone : Alone j steps state
  pub final : IsFinal state
  pub rows : List (List ℤ)
  pub bands : List (List Band)
  pub sampled : AreSamples j (clip window state.clock) rows
  pub between : AreAllBands j (clip window state.clock) bands
  pub drawn : text ≡ document name (clip window state.clock) j.parts state rows bands

-- the records of a window of the lone run of a job, by what stood in each entity at 500 moments of the window, and the
-- least and the greatest of what stood between two of them
pub record IsSheet (window : Window) (j : Job) (text : List ℕ) : Type 0 where
  pub steps : ℕ
  pub state : State
  pub alone : Alone j steps state
  pub final : IsFinal state
  pub rows : List (List ℤ)
  pub bands : List (List Band)
  pub sampled : AreSamples j (clip window state.clock) rows
  pub between : AreAllBands j (clip window state.clock) bands
  pub written : text ≡ sheet (clip window state.clock) j.parts.entities rows bands

-- a window of the lone run of a job, in a form
abbrev pub Shows : Form → Window → Job → List ℕ → Type 0
Shows (Picture name) window = IsChart window name.now
Shows Sheet window = IsSheet window
