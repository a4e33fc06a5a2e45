use Rattle.std.proofs.Common.{IfOk, sym, subst}
use Rattle.gw_figures.specs.Labels.{labels}
use Rattle.gw_summary.specs.Adding.{Line}
use Rattle.gw_summary.specs.Telling.{IsRunOfLine, source}
use Rattle.gw_summary.proofs.Results.{run_of_row}
use Rattle.gw_summary.proofs.telling.run_of.Goals as goal

pub returns-in-Some-2 : goal.returns-in-Some-2
returns-in-Some-2 c =
    let named = labels c.args.figures.now in
    let there = source c.args.study.now c.args.point.now in
    let told = c.run_if_of.ensures in
    let here = rw (c.deref.ensures.value, c.in-Some-2.is) at c.in_ok-row-in-Some.ensures in
    subst (λ (line : Line). IfOk c.run_if_of.result (IsRunOfLine named there c.args.number line)) (sym c.in-Some.is)
    (run_of_row named there c.args.number c.in-Some.line c.in-Some-2.row c.run_if_of.result here told.run told.source told.number)
