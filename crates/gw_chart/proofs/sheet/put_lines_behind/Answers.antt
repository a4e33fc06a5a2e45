use Rattle.gw_chart.specs.Sheets.{line_behind}
use Rattle.gw_drawing.proofs.Series.{grown, begun}
use Rattle.gw_chart.proofs.sheet.put_lines_behind.Goals as goal

pub loop-i-init : goal.loop-i-init
loop-i-init c = let s = c.args.series.now in begun (line_behind s.plot s.name.now s.window s.seen.now.rows.items s.seen.now.bands.items s.entity) _

pub loop-i-preserved : goal.loop-i-preserved
loop-i-preserved c =
    let s = c.args.series.now in
    grown (line_behind s.plot s.name.now s.window s.seen.now.rows.items s.seen.now.bands.items s.entity) c.loop-i.i _ _ _
    c.loop-i.invariant c.in_ok-put_line_behind.ensures
