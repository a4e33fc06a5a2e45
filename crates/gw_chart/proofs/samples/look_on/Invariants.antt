use Rattle.std.proofs.Common.{◌≡◌, ◌≤◌, ◌<◌}
use Rattle.gw_step.specs.Job.{IsReached}
use Rattle.gw_chart.specs.Looks.{HasLooked}
use Rattle.gw_chart.proofs.samples.look_on.Given as goal

abbrev pub invariant-loop : goal.invariant-loop
invariant-loop l =
    record {
      job : l.sim.job ≡ l.initial.sim.job;
      steps : l.counter ≤ l.sim.state.steps;
      looked : HasLooked l.initial.sim.job l.fn.from.0 l.to.0 l.sim.state l.bands.items;
      reached : 0 < l.counter → IsReached l.sim;
    }
