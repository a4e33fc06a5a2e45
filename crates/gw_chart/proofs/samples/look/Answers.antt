use Rattle.std.proofs.Common.{sym, subst}
use Rattle.gw_step.specs.Job.{Job}
use Rattle.gw_answers.specs.Running.{AreStillAt}
use Rattle.gw_answers.proofs.Lasting.{still_on}
use Rattle.gw_chart.specs.Samples.{AreBands}
use Rattle.gw_chart.proofs.Banding.{looked_first, looked_over, looked_still}
use Rattle.gw_chart.proofs.samples.look.Goals as goal

pub look_on-requires-clause-looked : goal.look_on-requires-clause-looked
look_on-requires-clause-looked c =
    let j = c.args.sim.now.job in
    let k = c.run_past.new.sim.job in
    let s = c.run_past.new.sim.state in
    let ran = c.in_ok-run_past.ensures in
    looked_first k c.args.from.0 c.args.to.0 s _ c.requires.order ran.reached.alone ran.over
    (subst (λ (i : Job). AreStillAt i c.args.from.0 0 s.steps) (sym ran.job)
    (still_on j c.args.from.0 0 c.args.sim.now.state.steps s.steps c.requires.still ran.still))
    c.in_ok-bands.ensures

pub returns-clause-bands : goal.returns-clause-bands
returns-clause-bands c =
    let k = c.run_past.new.sim.job in
    let looked = c.in_ok-look_on.ensures in
    rw c.from_vec.ensures
    (subst (λ (i : Job). AreBands i c.args.from.0 c.args.to.0 c.look_on.new.bands.items) c.in_ok-run_past.ensures.job
    (looked_over k c.args.from.0 c.args.to.0 c.look_on.new.sim.state c.look_on.new.bands.items looked.looked looked.over))

pub returns-clause-still : goal.returns-clause-still
returns-clause-still c =
    let k = c.run_past.new.sim.job in
    let looked = c.in_ok-look_on.ensures in
    subst (λ (i : Job). AreStillAt i c.args.to.0 0 c.look_on.new.sim.state.steps) c.in_ok-run_past.ensures.job
    (looked_still k c.args.from.0 c.args.to.0 c.look_on.new.sim.state c.look_on.new.bands.items looked.looked)
