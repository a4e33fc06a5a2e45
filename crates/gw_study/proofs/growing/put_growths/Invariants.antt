use Rattle.std.proofs.Common.{take}
use Rattle.gw_figures.specs.Labels.{labels}
use Rattle.gw_study.specs.Table.{rows, Adds, ArePieces, IsGrowthOf}
use Rattle.gw_study.proofs.growing.put_growths.Given as goal

-- the pieces of the figures so far are added
abbrev pub invariant-loop-i : goal.invariant-loop-i
invariant-loop-i l = Adds (ArePieces (IsGrowthOf (rows l.rows) (rows l.trends)) 0 (labels (take l.i l.figures))) l.fn.out.items l.out.items
