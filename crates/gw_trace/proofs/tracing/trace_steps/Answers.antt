use Rattle.std.proofs.Common.{◌≡◌, ◌+◌, ◌∙◌, refl, arith}
use Rattle.gw_step.proofs.LeftByEnds.{steps_are_counted}
use Rattle.gw_step.proofs.Rests.{start_steps}
use Rattle.gw_trace.proofs.Growing.{traced_first, traced_more, alone_first}
use Rattle.gw_trace.proofs.tracing.trace_steps.Goals as goal

pub loop-init : goal.loop-init
loop-init c =
    let j = c.args.sim.now.job in
    let s = c.args.sim.now.state in
    let none : s.steps ≡ 0 = start_steps j s c.requires.start in
    record {
      job = refl;
      steps = none;
      traced = traced_first c.args.window.from.0 c.args.window.to.0 j s c.args.out.now.items c.requires.start c.requires.heading;
      alone = alone_first j s c.requires.start;
      left = λ _. omega (arith, none, c.requires.budget);
    }

pub loop-preserved : goal.loop-preserved
loop-preserved c =
    let j = c.loop.sim.job in
    let s = c.loop.sim.state in
    let t = c.trace_step.new.sim.state in
    let made = c.in_ok-trace_step.ensures.made in
    let counted : t.steps ≡ s.steps + 1 = steps_are_counted j s t made in
    record {
      job = c.in_ok-trace_step.ensures.job ∙ c.loop.invariant.job;
      steps = omega (arith, counted, c.loop.invariant.steps);
      traced = traced_more c.args.window.from.0 c.args.window.to.0 j c.trace_step.new.sim.job s t c.loop.out.items c.trace_step.new.out.items
          c.in_ok-trace_step.ensures.job c.loop.invariant.alone made c.loop.invariant.traced c.in_ok-trace_step.ensures.line;
      alone = c.in_ok-trace_step.ensures.reached.alone;
      left = λ runs. c.in_ok-trace_step.ensures.reached.bounded.runs runs;
    }
