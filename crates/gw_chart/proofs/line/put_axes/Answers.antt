use Rattle.std.proofs.Common.{codes}
use Rattle.std.proofs.lemmas.Result.{IfOk-equal}
use Rattle.gw_chart.specs.Plots.{title, unit, levels, below}
use Rattle.gw_chart.specs.Windows.{span_of}
use Rattle.gw_chart.specs.Lines.{clocks, axes, limit_line}
use Rattle.gw_drawing.proofs.Series.{chain6}
use Rattle.gw_chart.proofs.line.put_axes.Goals as goal

pub returns : goal.returns
unfolding axes
returns c =
    let plot = c.args.plot in
    IfOk-equal c.put_limit_line.result _ _ _ c.put_limit_line.ensures
    (chain6 _ _ _ _ _ _ (title c.args.name.now plot) (unit plot) (levels plot c.args.axis)
    (clocks plot c.args.window.from (span_of c.args.window)) (below plot (codes "clock units"))
    (limit_line plot c.args.axis c.args.limit)
    c.in_ok-put_title.ensures c.in_ok-put_unit.ensures c.in_ok-put_levels.ensures
    (rw c.span_of.ensures.value at c.in_ok-put_clocks.ensures) c.in_ok-put_below.ensures)
