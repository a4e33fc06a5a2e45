use Rattle.gw_chart.specs.Sheets.{lines_at}
use Rattle.gw_drawing.proofs.Series.{grown, begun}
use Rattle.gw_chart.proofs.sheet.put_all_lines.Goals as goal

pub loop-i-init : goal.loop-i-init
loop-i-init c = begun (lines_at c.args.window c.args.seen.now.rows.items c.args.seen.now.bands.items c.args.entities.now) _

pub loop-i-preserved : goal.loop-i-preserved
loop-i-preserved c =
    grown (lines_at c.args.window c.args.seen.now.rows.items c.args.seen.now.bands.items c.args.entities.now) c.loop-i.i _ _ _
    c.loop-i.invariant c.in_ok-put_lines_at.ensures
