use Rattle.std.proofs.Common.{◌∙◌}
use Rattle.gw_step.specs.Job.{Job}
use Rattle.gw_chart.specs.declared.window.Window.{Window}
use Rattle.gw_chart.specs.Samples.{AreSamples, AreAllBands}
use Rattle.gw_chart.proofs.Looking.{seen_of}
use Rattle.gw_chart.proofs.charting.shown_of_run.Goals as goal

pub shown-requires-clause-sampled : goal.shown-requires-clause-sampled
shown-requires-clause-sampled c =
    let ran = c.in_ok-run_to_end.ensures in
    let seen = c.in_ok-seen.ensures in
    seen_of (λ (j : Job) (w : Window). AreSamples j w c.in_ok-seen.seen.rows.items) c.args.sim.now.job c.run_to_end.new.sim.job c.args.end.0
    c.run_to_end.new.sim.state.steps c.run_to_end.new.sim.state c.args.window (ran.job ∙ seen.job) c.requires.end ran.alone ran.over
    (rw c.clip.ensures at seen.sampled)

pub shown-requires-clause-between : goal.shown-requires-clause-between
shown-requires-clause-between c =
    let ran = c.in_ok-run_to_end.ensures in
    let seen = c.in_ok-seen.ensures in
    seen_of (λ (j : Job) (w : Window). AreAllBands j w c.in_ok-seen.seen.bands.items) c.args.sim.now.job c.run_to_end.new.sim.job c.args.end.0
    c.run_to_end.new.sim.state.steps c.run_to_end.new.sim.state c.args.window (ran.job ∙ seen.job) c.requires.end ran.alone ran.over
    (rw c.clip.ensures at seen.between)
