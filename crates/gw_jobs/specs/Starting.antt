-- What a job at its start stands for, before a table has it.
use Rattle.std.specs.Prelude.{◌≡◌, Some}
use Rattle.gw_step.specs.Job.{Job, start_of}
use Rattle.gw_jobs.specs.declared.submission.NewJob.TheInside.{Inside}

-- what it runs
abbrev pub job_of : Inside → Job
job_of n = n.sim.job

-- its state is the one of its job's start, and the specs for its row and for its pass are that job
pub record IsAtStart (n : Inside) : Type 0 where
  pub row : n.row_spec ≡ n.sim.job
  pub pass : n.pass_spec ≡ n.sim.job
  pub start : start_of n.sim.job ≡ Some n.sim.state
