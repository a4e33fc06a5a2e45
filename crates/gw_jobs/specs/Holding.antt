-- The row that a row of the table is, and the state or the conclusion that it holds.
use Rattle.std.specs.Prelude.{◌≡◌, ℕ, ◌≤◌, ◌^◌, true, false, Some}
use Rattle.gw_step.specs.State.{State}
use Rattle.gw_step.specs.Job.{Job, Progress, Alone}
use Rattle.gw_report.specs.Report.{report_of}
use Rattle.gw_service.specs.Rows.{Row as ServiceRow, Standing as ServiceStanding, Ready, Out, Ended, Cancelled, CancelledOut, is_over, standing_back}
use Rattle.gw_jobs.specs.declared.conclusion.Conclusion.{Conclusion}
use Rattle.gw_jobs.specs.declared.row.Standing.{Standing}
use Rattle.gw_jobs.specs.declared.row.Standing.TheVariants as standings
use Rattle.gw_jobs.specs.declared.row.Row.TheInside.{Inside}

-- how a job stands, whatever state is held
abbrev pub standing_of : Standing → ServiceStanding
standing_of (standings.Ready sim) = Ready
standing_of standings.Out = Out
standing_of (standings.Ended sim) = Ended
standing_of (standings.Concluded c) = Ended
standing_of standings.Cancelled = Cancelled
standing_of standings.CancelledOut = CancelledOut

-- its user, its job, the steps that were last given back, and how it stands
abbrev pub row_of : Inside → ServiceRow
row_of r = record { user = r.user; job = r.spec; steps = r.steps; standing = standing_of r.standing }

-- how a job stands that was out, once it was given back with this state
abbrev pub standing_after : Progress → Standing → ServiceStanding
standing_after sim t = standing_back sim.job sim.state.steps (standing_of t)

-- a state of this job, after so many steps
pub record IsStateOf (j : Job) (n : ℕ) (p : Progress) : Type 0 where
  pub job : p.job ≡ j
  pub steps : p.state.steps ≡ n

-- a conclusion tells this job after so many steps: the state of its lone run there has its end, and its report
pub record Concludes (j : Job) (n : ℕ) (c : Conclusion) : Type 0 where
  pub state : State
  pub alone : Alone j n state
  pub ended : state.ended ≡ Some c.end
  pub report : c.report.items ≡ report_of (record { job = j; state = state })

-- a row that is ready or ended holds the state of its job after the row's steps, or its conclusion; the lone run is
-- over there where it is ended, and goes on where it is ready
abbrev pub HoldsFor : Job → ℕ → Standing → Type 0
HoldsFor j n (standings.Ready sim) = IsStateOf j n sim × (is_over j n ≡ false)
HoldsFor j n standings.Out = Unit {0}
HoldsFor j n (standings.Ended sim) = IsStateOf j n sim × (is_over j n ≡ true)
HoldsFor j n (standings.Concluded c) = Concludes j n c
HoldsFor j n standings.Cancelled = Unit {0}
HoldsFor j n standings.CancelledOut = Unit {0}

-- a row holds the state that its standing asks for, and its steps are within every budget
pub record IsRow (r : Inside) : Type 0 where
  pub holds : HoldsFor r.spec r.steps r.standing
  pub steps : r.steps ≤ 2 ^ 40
