use Rattle.std.proofs.Common.{codes}
use Rattle.std.proofs.lemmas.Result.{IfOk-equal}
use Rattle.gw_drawing.specs.Text.{tenths}
use Rattle.gw_chart.specs.Plots.{floor_of}
use Rattle.gw_drawing.proofs.Series.{chain5}
use Rattle.gw_chart.proofs.plot.put_upright_line.Goals as goal

pub returns : goal.returns
returns c =
    IfOk-equal c.put-3.result _ _ _ c.put-3.ensures
    (chain5 _ _ _ _ _ (codes "<path d=\"M") (tenths c.args.x) (codes " 32.0V") (tenths (floor_of c.args.plot)) (codes "\" stroke=\"#eee\"/>\n")
    c.in_ok-put.ensures c.in_ok-put_tenths.ensures c.in_ok-put-2.ensures (rw c.floor_of.ensures.value at c.in_ok-put_tenths-2.ensures))
