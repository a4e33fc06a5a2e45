use Rattle.std.proofs.Common.{codes, length}
use Rattle.std.specs.Prelude.{slice_index}
use Rattle.std.proofs.lemmas.Result.{IfOk-equal}
use Rattle.gw_drawing.specs.Numbers.{greatest}
use Rattle.gw_chart.specs.Axes.{levels_to}
use Rattle.gw_chart.specs.Plots.{title, unit, levels, below}
use Rattle.gw_chart.specs.Bars.{classes, bar_panel}
use Rattle.gw_drawing.proofs.Series.{chain5}
use Rattle.gw_chart.proofs.bars.put_bar_panel.Goals as goal

pub returns : goal.returns
unfolding bar_panel
returns c =
    let plot = c.args.plot in
    let values = c.args.values.now in
    let axis = levels_to (greatest (slice_index values) (length values)) 0 in
    IfOk-equal c.put_below.result _ _ _ c.put_below.ensures
    (chain5 _ _ _ _ _ (title c.args.name.now plot) (unit plot) (levels plot axis) (classes plot axis c.args.table.now values)
    (below plot (codes "class, by its upper limit"))
    c.in_ok-put_title.ensures c.in_ok-put_unit.ensures (rw (c.axis_to-axis.ensures, c.greatest.ensures.value) at c.in_ok-put_levels.ensures)
    (rw (c.axis_to-axis.ensures, c.greatest.ensures.value) at c.in_ok-put_classes.ensures))
