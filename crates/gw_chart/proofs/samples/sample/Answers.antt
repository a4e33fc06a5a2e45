use Rattle.std.proofs.Common.{◌≡◌}
use Rattle.std.proofs.lemmas.Result.{IfOk-weaker}
use Rattle.gw_answers.specs.Running.{AreStillAt}
use Rattle.gw_answers.proofs.Lasting.{still_on}
use Rattle.gw_chart.specs.Contents.{contents_from}
use Rattle.gw_chart.specs.Samples.{StoodAt}
use Rattle.gw_chart.proofs.Looking.{stood_here, on_any}
use Rattle.gw_chart.proofs.samples.sample.Goals as goal

pub returns-clause-stood : goal.returns-clause-stood
returns-clause-stood c =
    let j = c.args.sim.now.job in
    let k = c.run_past.new.sim.job in
    let s = c.run_past.new.sim.state in
    let ran = c.in_ok-run_past.ensures in
    IfOk-weaker c.contents.result (λ row. row ≡ contents_from s 0 k.parts.entities) (StoodAt j c.args.time.0)
    (λ row h. stood_here j k c.args.time.0 c.args.sim.now.state.steps s row ran.job c.requires.still ran.still ran.reached.alone ran.over h)
    c.contents.ensures

pub returns-clause-still : goal.returns-clause-still
returns-clause-still c =
    let j = c.args.sim.now.job in
    let s = c.run_past.new.sim.state in
    on_any c.contents.result (AreStillAt j c.args.time.0 0 s.steps)
    (still_on j c.args.time.0 0 c.args.sim.now.state.steps s.steps c.requires.still c.in_ok-run_past.ensures.still)
