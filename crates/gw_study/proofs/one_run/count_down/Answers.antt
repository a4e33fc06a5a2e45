use Rattle.std.proofs.Common.{◌≡◌, ◌∙◌, ◌+◌, ◌<◌, arith, refl, subst, ap}
use Rattle.gw_step.specs.Job.{Job, Alone}
use Rattle.gw_step.proofs.LeftByEnds.{steps_are_counted}
use Rattle.gw_study.proofs.Counting.{before_more}
use Rattle.gw_study.proofs.one_run.count_down.Goals as goal

pub loop-sim-preserved : goal.loop-sim-preserved
loop-sim-preserved c =
    let j = c.args.sim.now.job in
    let s = c.loop-sim.sim.state in
    let counted : c.step_on.new.sim.state.steps ≡ s.steps + 1 = steps_are_counted c.loop-sim.sim.job s c.step_on.new.sim.state c.in_ok-step_on.ensures.made in
    let alone : Alone j s.steps s = subst (λ (i : Job). Alone i s.steps s) c.loop-sim.invariant.0 c.goes_on.ensures.reached.alone in
    let on = c.loop-sim-test.ensures.on refl in (
      c.in_ok-step_on.ensures.job ∙ c.loop-sim.invariant.0,
      before_more j c.args.left s.steps c.step_on.new.sim.state.steps s c.loop-sim.invariant.1 alone on.1 counted,
    )

pub loop-sim-smaller : goal.loop-sim-smaller
loop-sim-smaller c =
    let s = c.loop-sim.sim.state in
    let counted : c.step_on.new.sim.state.steps ≡ s.steps + 1 = steps_are_counted c.loop-sim.sim.job s c.step_on.new.sim.state c.in_ok-step_on.ensures.made in
    let on = c.loop-sim-test.ensures.on refl in
    let left : s.steps < c.loop-sim.sim.job.budget = c.goes_on.ensures.reached.bounded.runs on.0 in
    let same : c.step_on.new.sim.job.budget ≡ c.loop-sim.sim.job.budget = ap (λ (i : Job). i.budget) c.in_ok-step_on.ensures.job in
    omega (arith, counted, left, same)
