use Rattle.std.proofs.Common.{arith}
use Rattle.gw_figures.specs.Labels.{labels}
use Rattle.gw_summary.specs.Telling.{source}
use Rattle.gw_summary.proofs.Lines.{line_more, all_lines}
use Rattle.gw_summary.proofs.telling.runs_of.Goals as goal

pub loop-i-preserved : goal.loop-i-preserved
loop-i-preserved c = (
  line_more (labels c.args.figures.now) (source c.args.study.now c.args.point.now) c.args.lines.now c.loop-i.i c.index-lines-i.result c.in_ok-run.run'
      c.loop-i.runs.items c.push_run.new.runs.items
      c.loop-i-test.true c.index-lines-i.is c.in_ok-run.ensures c.in_ok-push_run.ensures.added c.loop-i.invariant.0,
  omega (arith, c.in_ok-push_run.ensures.few, c.loop-i.invariant.1),
)

pub returns-clause-tell : goal.returns-clause-tell
returns-clause-tell c =
    all_lines (labels c.args.figures.now) (source c.args.study.now c.args.point.now) c.args.lines.now c.loop-i.i c.loop-i.runs.items
    (omega (arith, c.loop-i-test.false)) c.loop-i.invariant.0
