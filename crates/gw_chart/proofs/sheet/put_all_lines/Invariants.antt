use Rattle.gw_chart.specs.Sheets.{lines_at}
use Rattle.gw_drawing.proofs.Series.{HasUpto}
use Rattle.gw_chart.proofs.sheet.put_all_lines.Given as goal

abbrev pub invariant-loop-i : goal.invariant-loop-i
invariant-loop-i l = HasUpto (lines_at l.window l.seen.rows.items l.seen.bands.items l.entities) l.i l.initial.out.items l.out.items
