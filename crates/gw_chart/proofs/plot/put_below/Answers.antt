use Rattle.std.proofs.Common.{◌+◌, codes}
use Rattle.std.proofs.lemmas.Result.{IfOk-equal}
use Rattle.gw_chart.specs.Plots.{below, floor_of}
use Rattle.gw_drawing.specs.Text.{text_at}
use Rattle.gw_drawing.proofs.Series.{chain3}
use Rattle.gw_chart.proofs.plot.put_below.Goals as goal

pub returns : goal.returns
unfolding below
returns c =
    IfOk-equal c.put-2.result _ _ _ c.put-2.ensures
    (chain3 _ _ _ (text_at 3900 (floor_of c.args.plot + 330) (codes " text-anchor=\"middle\" fill=\"#555\"")) c.args.words.now (codes "</text>\n")
    (rw c.floor_of-y.ensures.value at c.in_ok-put_text_at.ensures) c.in_ok-put.ensures)
