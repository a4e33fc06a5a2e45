use Rattle.std.proofs.lemmas.Result.{IfOk-equal}
use Rattle.gw_drawing.specs.Text.{level_line}
use Rattle.gw_chart.specs.Plots.{level_at, number_text}
use Rattle.gw_drawing.proofs.Series.{chain2}
use Rattle.gw_chart.proofs.plot.put_level.Goals as goal

pub returns : goal.returns
returns c =
    let y = level_at c.args.plot c.args.axis c.args.i in
    IfOk-equal c.put_number_text.result _ _ _ (rw c.level_at-y.ensures.value at c.put_number_text.ensures)
    (chain2 _ _ (level_line y) (number_text y c.args.axis c.args.i) (rw c.level_at-y.ensures.value at c.in_ok-put_level_line.ensures))
