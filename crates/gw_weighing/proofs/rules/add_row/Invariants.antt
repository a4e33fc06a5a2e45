use Rattle.std.proofs.Common.{◌≡◌, ◌++◌, drop}
use Rattle.gw_weighing.specs.Rules.{rules_of_row}
use Rattle.gw_weighing.proofs.rules.add_row.Given as goal

-- with the rules of the blocks that are left they are those of all
abbrev pub invariant-loop-i : goal.invariant-loop-i
invariant-loop-i l = l.rules.items ++ rules_of_row l.layout l.row (drop l.i l.blocks) ≡ l.fn.rules.items ++ rules_of_row l.layout l.row l.blocks
