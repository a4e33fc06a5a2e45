use Rattle.std.proofs.Common.{◌≡◌, ◌++◌, drop}
use Rattle.gw_weighing.specs.Rules.{from_place, rules_of_block, rules_of_blocks}
use Rattle.gw_weighing.proofs.rules.add_blocks.Given as goal

-- with the rules of the blocks that are left they are those of all
abbrev pub invariant-loop-i : goal.invariant-loop-i
invariant-loop-i l = l.rules.items ++ from_place (rules_of_block l.layout l.parts) l.i (drop l.i l.parts.blocks) ≡ l.fn.rules.items
    ++ rules_of_blocks l.layout l.parts
