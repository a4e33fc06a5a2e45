-- What a submit to a table behind a lock comes to, whatever others do to the table before and after.
use Rattle.std.specs.Prelude.{◌≡◌, ℕ, None}
use Rattle.gw_step.specs.Job.{Job}
use Rattle.gw_service.specs.declared.faults.JobFault.{JobFault}
use Rattle.gw_service.specs.Journal.{Service}
use Rattle.gw_service.specs.Calls.{Pass, new_pass, submit_fault, Refuses}

-- a pass that a submit of this user and this job makes, by a table in some state that refuses it not
pub record IsPassFor (u : ℕ) (j : Job) (p : Pass) : Type 0 where
  pub before : Service
  pub free : submit_fault u before ≡ None
  pub pass : p ≡ new_pass u j before

-- a fault by which a table in some state refuses a submit of this user
pub record MayRefuse (u : ℕ) (fault : JobFault) : Type 0 where
  pub before : Service
  pub refuses : Refuses (submit_fault u before) fault
