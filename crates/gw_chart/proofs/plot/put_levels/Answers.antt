use Rattle.std.proofs.lemmas.Result.{IfOk-equal}
use Rattle.gw_chart.specs.Plots.{level, lower_levels, levels}
use Rattle.gw_drawing.proofs.Series.{chain2}
use Rattle.gw_chart.proofs.plot.put_levels.Goals as goal

pub returns : goal.returns
unfolding levels
returns c =
    let axis = c.args.axis in
    IfOk-equal c.put_level.result _ _ _ (rw c.count_of-count.ensures.value at c.put_level.ensures)
    (chain2 _ _ (lower_levels c.args.plot axis) (level c.args.plot axis axis.count) c.in_ok-put_lower_levels.ensures)
