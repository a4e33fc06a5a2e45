use Rattle.std.proofs.Common.{◌≡◌, ◌+◌, ◌∙◌, ℕ, arith, refl, sym, subst}
use Rattle.gw_step.specs.Job.{Job, Alone}
use Rattle.gw_step.proofs.LeftByEnds.{steps_are_counted}
use Rattle.gw_answers.specs.Running.{AreStillAt}
use Rattle.gw_answers.proofs.Lasting.{still_more, still_none}
use Rattle.gw_answers.proofs.running.run_past.Goals as goal

pub loop-init : goal.loop-init
loop-init c =
    record {
      job = refl;
      steps = omega arith;
      still = still_none c.args.sim.now.job c.args.time.0 c.args.sim.now.state.steps;
      reached = λ h. absurd (omega (arith, h));
    }

pub loop-preserved : goal.loop-preserved
loop-preserved c =
    let j = c.args.sim.now.job in
    let s = c.loop.sim.state in
    let counted : c.step_on.new.sim.state.steps ≡ s.steps + 1 = steps_are_counted c.loop.sim.job s c.step_on.new.sim.state c.in_ok-step_on.ensures.made in
    let alone : Alone j s.steps s = subst (λ (i : Job). Alone i s.steps s) c.loop.invariant.job c.if-is_over.ensures.reached.alone in
    record {
      job = c.in_ok-step_on.ensures.job ∙ c.loop.invariant.job;
      steps = omega (arith, counted, c.loop.invariant.steps);
      still = subst (λ (n : ℕ). AreStillAt j c.args.time.0 c.args.sim.now.state.steps n) (sym counted)
          (still_more j c.args.time.0 c.args.sim.now.state.steps s.steps s c.loop.invariant.still alone (c.if-is_over.ensures.not_yet refl));
      reached = λ _. c.in_ok-step_on.ensures.reached;
    }
