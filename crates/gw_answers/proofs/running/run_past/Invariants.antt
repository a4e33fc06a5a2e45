use Rattle.std.proofs.Common.{◌≡◌, ◌+◌, ◌<◌}
use Rattle.gw_step.specs.Job.{IsReached}
use Rattle.gw_answers.specs.Running.{AreStillAt}
use Rattle.gw_answers.proofs.running.run_past.Given as goal

abbrev pub invariant-loop : goal.invariant-loop
invariant-loop l =
    record {
      job : l.sim.job ≡ l.initial.sim.job;
      steps : l.sim.state.steps ≡ l.initial.sim.state.steps + l.counter;
      still : AreStillAt l.initial.sim.job l.time.0 l.initial.sim.state.steps l.sim.state.steps;
      reached : 0 < l.counter → IsReached l.sim;
    }
