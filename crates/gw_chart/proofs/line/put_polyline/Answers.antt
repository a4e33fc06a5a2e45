use Rattle.std.proofs.Common.{codes}
use Rattle.std.proofs.lemmas.Result.{IfOk-equal}
use Rattle.gw_chart.specs.Plots.{colour_of}
use Rattle.gw_chart.specs.Lines.{points, line}
use Rattle.gw_drawing.proofs.Series.{chain5}
use Rattle.gw_chart.proofs.line.put_polyline.Goals as goal

pub returns : goal.returns
unfolding line
returns c =
    IfOk-equal c.put-4.result _ _ _ c.put-4.ensures
    (chain5 _ _ _ _ _ (codes "<polyline fill=\"none\" stroke=\"") (colour_of c.args.curve.now.plot) (codes "\" points=\"")
    (points c.args.curve.now.plot c.args.curve.now.axis c.args.curve.now.seen.now.rows.items c.args.curve.now.entity) (codes "\"/>\n")
    c.in_ok-put.ensures (rw c.colour_of.ensures at c.in_ok-put-2.ensures) c.in_ok-put-3.ensures c.in_ok-put_points.ensures)
