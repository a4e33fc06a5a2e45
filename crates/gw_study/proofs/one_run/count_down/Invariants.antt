use Rattle.std.proofs.Common.{◌≡◌, ◌-◌}
use Rattle.gw_study.specs.Runs.{IsBeforeCount}
use Rattle.gw_study.proofs.one_run.count_down.Given as goal

-- in the states before more was left
abbrev pub invariant-loop-sim : goal.invariant-loop-sim
invariant-loop-sim l = (l.sim.job ≡ l.fn.sim.job) × IsBeforeCount l.fn.sim.job l.left l.sim.state.steps

abbrev pub decreases-loop-sim : goal.decreases-loop-sim
decreases-loop-sim l = l.sim.job.budget - l.sim.state.steps
