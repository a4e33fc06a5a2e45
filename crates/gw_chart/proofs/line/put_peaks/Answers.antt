use Rattle.std.proofs.Common.{codes}
use Rattle.std.proofs.lemmas.Result.{IfOk-equal}
use Rattle.gw_chart.specs.Plots.{colour_of}
use Rattle.gw_chart.specs.Lines.{strokes, peaks}
use Rattle.gw_drawing.proofs.Series.{chain5}
use Rattle.gw_chart.proofs.line.put_peaks.Goals as goal

pub returns : goal.returns
unfolding peaks
returns c =
    let k = c.args.curve.now in
    IfOk-equal c.put-4.result _ _ _ c.put-4.ensures
    (chain5 _ _ _ _ _ (codes "<path stroke-opacity=\"0.4\" stroke=\"") (colour_of k.plot) (codes "\" d=\"")
    (strokes k.plot k.axis k.seen.now.rows.items k.seen.now.bands.items k.entity) (codes "\"/>\n")
    c.in_ok-put.ensures (rw c.colour_of.ensures at c.in_ok-put-2.ensures) c.in_ok-put-3.ensures c.in_ok-put_strokes.ensures)
