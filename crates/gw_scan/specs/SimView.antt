-- The job and the state that a sim stands for.
use Rattle.gw_scan.specs.declared.sim.Sim.TheInside.{Inside}
use Rattle.std.specs.Prelude.{◌≡◌}
use Rattle.gw_machine.specs.Configuration.{Configuration}
use Rattle.gw_step.specs.Job.{Job, Progress, IsReached}
use Rattle.gw_machine.specs.View.{state_of}
use Rattle.gw_machine.specs.Slots.{greatest_set}

-- a job, and the state that a machine is in
abbrev pub progress_on : Job → Configuration → Progress
progress_on j m = record { job = j; state = state_of m }

-- its job, and the state that its machine is in
abbrev pub progress_of : Inside → Progress
progress_of s = progress_on s.spec s.machine

-- its job reaches this state, and its machine has a slot for each parameter that a block sets
pub record HasReached (s : Inside) : Type 0 where
  pub reached : IsReached (progress_of s)
  pub slots : s.machine.last ≡ greatest_set s.spec.parts.blocks
