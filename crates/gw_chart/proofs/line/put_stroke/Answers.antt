use Rattle.std.proofs.Common.{◌+◌, ◌*◌, codes}
use Rattle.std.proofs.lemmas.Result.{IfOk-equal}
use Rattle.gw_drawing.specs.Numbers.{part_of_length}
use Rattle.gw_drawing.specs.Text.{tenths}
use Rattle.gw_drawing.proofs.Series.{chain6}
use Rattle.gw_chart.specs.Plots.{height_at}
use Rattle.gw_chart.proofs.line.put_stroke.Goals as goal

pub returns : goal.returns
returns c =
    let plot = c.args.plot in
    let axis = c.args.axis in
    IfOk-equal c.put_tenths-3.result _ _ _ (rw c.least_at.ensures at c.put_tenths-3.ensures)
    (chain6 _ _ _ _ _ _ (codes "M") (tenths (800 + part_of_length 6200 (2 * c.args.moment + 1) 998)) (codes " ")
    (tenths (height_at plot axis c.args.band.greatest)) (codes "V") (tenths (height_at plot axis c.args.band.least))
    c.in_ok-put.ensures (rw c.part_of_length.ensures.value at c.in_ok-put_tenths.ensures) c.in_ok-put-2.ensures
    (rw c.greatest_at.ensures at c.in_ok-put_tenths-2.ensures) c.in_ok-put-3.ensures)
