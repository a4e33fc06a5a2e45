use Rattle.std.proofs.Common.{◌≡◌, map, take, Some}
use Rattle.gw_study.specs.Table.{value_at}
use Rattle.gw_study.proofs.columns.column.Given as goal

-- the numbers of the rows so far
abbrev pub invariant-loop-row : goal.invariant-loop-row
invariant-loop-row l = map (λ row. value_at l.place row.now) (take l.row-index l.rows) ≡ map Some l.column.items
