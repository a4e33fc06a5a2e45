-- What passes, tasks and receipts stand for.
use Rattle.std.specs.Prelude.{ℕ, ◌≤◌, ◌<◌, ◌^◌, IfSome}
use Rattle.gw_step.specs.Job.{Progress, IsReached}
use Rattle.gw_service.specs.Calls.{Pass, Receipt, most_jobs}
use Rattle.gw_jobs.specs.declared.pass.Pass.TheInside.{Inside as PassInside}
use Rattle.gw_jobs.specs.declared.replies.Returned.TheInside.{Inside as ReturnedInside}
use Rattle.gw_jobs.specs.declared.task.Task.TheInside.{Inside as TaskInside}
use Rattle.gw_jobs.specs.Holding.{Concludes}

-- its user, its slot and its job
abbrev pub pass_of : PassInside → Pass
pass_of p = record { user = p.user; slot = p.slot; job = p.spec }

-- a job that is out: its slot, and the job with the state that it is in
pub record Task : Type 0 where
  pub slot : ℕ
  pub sim : Progress

-- the steps that it has made in all
abbrev pub steps_made : Task → ℕ
steps_made t = t.sim.state.steps

-- its slot, and what its worker owns
abbrev pub task_of : TaskInside → Task
task_of t = record { slot = t.slot; sim = t.sim }

-- a task's state is the one that its job's lone run has after as many steps, and its conclusion tells that one
pub record IsTask (t : TaskInside) : Type 0 where
  pub reached : IsReached t.sim
  pub concludes : IfSome t.conclusion (Concludes t.sim.job t.sim.state.steps)

-- what is told of the row that came back
abbrev pub receipt_in : ReturnedInside → Receipt
receipt_in r = record { slot = r.slot; user = r.user; steps = r.steps; ended = r.ended; cancelled = r.cancelled }

-- the ranges of what is told
pub record IsReceipt (r : ReturnedInside) : Type 0 where
  pub slot : r.slot < most_jobs
  pub steps : r.steps ≤ 2 ^ 40
