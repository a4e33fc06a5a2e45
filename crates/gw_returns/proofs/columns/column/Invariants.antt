use Rattle.std.proofs.Common.{◌≡◌, map, take}
use Rattle.gw_object.specs.declared.parts.ReturnRow.{ReturnRow}
use Rattle.gw_returns.specs.Words.{common}
use Rattle.gw_returns.proofs.columns.column.Given as goal

-- the words so far are those of the rows so far
abbrev pub invariant-loop-row : goal.invariant-loop-row
invariant-loop-row l = l.words.items ≡ map (λ (row : ReturnRow). common l.holders.items row.blocks) (take l.row-index l.rows)
