use Rattle.std.proofs.Common.{◌≡◌, ◌++◌, drop}
use Rattle.gw_object.specs.declared.parts.ReturnRow.{ReturnRow}
use Rattle.gw_weighing.specs.Rules.{from_place, rules_of_row, rules_of_rows}
use Rattle.gw_weighing.proofs.rules.add_rows.Given as goal

-- with the rules of the rows that are left they are those of all
abbrev pub invariant-loop-i : goal.invariant-loop-i
invariant-loop-i l = l.rules.items ++ from_place (λ r (row : ReturnRow). rules_of_row l.layout r row.blocks) l.i (drop l.i l.parts.returns)
    ≡ l.fn.rules.items ++ rules_of_rows l.layout l.parts
