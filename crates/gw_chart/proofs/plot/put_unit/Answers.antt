use Rattle.std.proofs.Common.{◌+◌, ◌/◌, codes}
use Rattle.std.proofs.lemmas.Result.{IfOk-equal}
use Rattle.gw_drawing.specs.Text.{tenths}
use Rattle.gw_chart.specs.Plots.{unit, height_of, unit_of}
use Rattle.gw_drawing.proofs.Series.{chain5}
use Rattle.gw_chart.proofs.plot.put_unit.Goals as goal

pub returns : goal.returns
unfolding unit
returns c =
    IfOk-equal c.put-4.result _ _ _ c.put-4.ensures
    (chain5 _ _ _ _ _ (codes "<text transform=\"translate(14,") (tenths (320 + height_of c.args.plot / 2))
    (codes ") rotate(-90)\" text-anchor=\"middle\" fill=\"#555\">") (unit_of c.args.plot) (codes "</text>\n")
    c.in_ok-put.ensures (rw c.height_of.ensures.value at c.in_ok-put_tenths.ensures) c.in_ok-put-2.ensures
    (rw c.words_of.ensures.unit at c.in_ok-put-3.ensures))
