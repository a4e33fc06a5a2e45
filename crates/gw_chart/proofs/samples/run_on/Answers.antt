use Rattle.std.proofs.Common.{ℤ, subst}
use Rattle.std.specs.Prelude.{OnOk}
use Rattle.gw_answers.specs.Running.{AreStillAt}
use Rattle.gw_chart.proofs.samples.run_on.Goals as goal

pub returns-clause-still : goal.returns-clause-still
returns-clause-still c =
    let s = c.args.sim.now.state in
    subst (λ (t : ℤ). OnOk c.run_past.result (AreStillAt c.args.sim.now.job t s.steps c.run_past.new.sim.state.steps)) c.now-time.ensures
    c.run_past.ensures.still
