use Rattle.std.proofs.Common.{◌+◌, ◌/◌, codes}
use Rattle.std.proofs.lemmas.Result.{IfOk-equal}
use Rattle.gw_drawing.specs.Numbers.{part_of_length}
use Rattle.gw_chart.specs.Plots.{floor_of}
use Rattle.gw_drawing.specs.Text.{text_at}
use Rattle.gw_chart.specs.Bars.{limit_text}
use Rattle.gw_drawing.proofs.Series.{chain3}
use Rattle.gw_chart.proofs.bars.put_limit.Goals as goal

pub returns : goal.returns
returns c =
    let classes = c.args.classes in
    IfOk-equal c.put.result _ _ _ c.put.ensures
    (chain3 _ _ _ (text_at (800 + part_of_length 6200 c.args.i classes + 6200 / classes / 2) (floor_of c.args.plot + 160) (codes " text-anchor=\"middle\""))
    (limit_text c.args.table.now classes c.args.i) (codes "</text>\n")
    (rw (c.part_of_length.ensures.value, c.floor_of.ensures.value) at c.in_ok-put_text_at.ensures) c.in_ok-put_limit_text.ensures)
