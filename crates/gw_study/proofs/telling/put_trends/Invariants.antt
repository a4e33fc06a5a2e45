use Rattle.std.proofs.Common.{take}
use Rattle.gw_figures.specs.Labels.{labels}
use Rattle.gw_study.specs.Table.{rows, Adds, ArePieces, IsTrendOf}
use Rattle.gw_study.proofs.telling.put_trends.Given as goal

-- the pieces of the figures so far are added
abbrev pub invariant-loop-i : goal.invariant-loop-i
invariant-loop-i l = Adds (ArePieces (IsTrendOf (rows l.rows) l.suggested) 0 (labels (take l.i l.figures))) l.fn.out.items l.out.items
