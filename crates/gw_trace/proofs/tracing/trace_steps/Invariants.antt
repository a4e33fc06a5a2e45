use Rattle.std.proofs.Common.{◌≡◌, ◌<◌, None}
use Rattle.gw_step.specs.Job.{Alone}
use Rattle.gw_trace.specs.Trace.{HasTraced}
use Rattle.gw_trace.proofs.tracing.trace_steps.Given as goal

abbrev pub invariant-loop : goal.invariant-loop
invariant-loop l =
    record {
      job : l.sim.job ≡ l.initial.sim.job;
      steps : l.sim.state.steps ≡ l.counter;
      traced : HasTraced l.window.from.0 l.window.to.0 l.sim l.out.items;
      alone : Alone l.sim.job l.sim.state.steps l.sim.state;
      left : l.sim.state.ended ≡ None → l.sim.state.steps < l.sim.job.budget;
    }
