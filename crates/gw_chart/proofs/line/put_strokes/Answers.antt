use Rattle.gw_chart.specs.Lines.{stroke_at}
use Rattle.gw_drawing.proofs.Series.{grown, begun}
use Rattle.gw_chart.proofs.line.put_strokes.Goals as goal

pub loop-i-init : goal.loop-i-init
loop-i-init c = let k = c.args.curve.now in begun (stroke_at k.plot k.axis k.seen.now.rows.items k.seen.now.bands.items k.entity) _

pub loop-i-preserved : goal.loop-i-preserved
loop-i-preserved c =
    let k = c.args.curve.now in
    grown (stroke_at k.plot k.axis k.seen.now.rows.items k.seen.now.bands.items k.entity) c.loop-i.i _ _ _ c.loop-i.invariant c.in_ok-put_stroke_at.ensures
