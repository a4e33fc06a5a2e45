use Rattle.std.proofs.Common.{◌∙◌, ap, length, sym, arith, refl}
use Rattle.gw_step.specs.Job.{Job}
use Rattle.gw_chart.proofs.Banding.{looked_next}
use Rattle.gw_chart.proofs.samples.look_on.Goals as goal

pub loop-init : goal.loop-init
loop-init c = record {
  job = refl;
  steps = omega arith;
  looked = c.requires.looked;
  reached = λ h. absurd (omega (arith, h));
}

pub widen-requires : goal.widen-requires
widen-requires c =
    let here = c.in_ok-run_on.ensures.job ∙ c.loop.invariant.job in
    c.loop.invariant.looked.count ∙ ap (λ (j : Job). length j.parts.entities) (sym here)

pub loop-preserved : goal.loop-preserved
loop-preserved c =
    let before = c.loop.invariant in
    let ran = c.in_ok-run_on.ensures in
    let next = looked_next c.args.sim.now.job c.loop.sim.job c.run_on.new.sim.job c.args.from.0 c.args.to.0 _ c.loop.sim.state c.run_on.new.sim.state
    c.loop.bands.items c.widen.new.bands.items before.job ran.job refl before.looked (c.if-is_over.ensures.not_yet refl) ran.reached.alone ran.over ran.still
    c.widen.ensures in
    record {
      job = ran.job ∙ before.job;
      steps = omega (arith, before.steps, next.1);
      looked = next.0;
      reached = λ _. ran.reached;
    }
