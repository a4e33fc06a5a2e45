use Rattle.gw_chart.specs.Sheets.{line_behind}
use Rattle.gw_drawing.proofs.Series.{HasUpto}
use Rattle.gw_chart.proofs.sheet.put_lines_behind.Given as goal

abbrev pub invariant-loop-i : goal.invariant-loop-i
invariant-loop-i l =
    HasUpto (line_behind l.series.plot l.series.name.now l.series.window l.series.seen.now.rows.items l.series.seen.now.bands.items l.series.entity)
    l.i l.initial.out.items l.out.items
