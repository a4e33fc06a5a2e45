use Rattle.std.proofs.Common.{◌≡◌, max, drop}
use Rattle.gw_machine.specs.Slots.{greatest_set}
use Rattle.gw_machine.proofs.slots.greatest_set.Given as goal

-- the greatest so far and the greatest of those that are left
abbrev pub invariant-loop-i : goal.invariant-loop-i
invariant-loop-i l = max l.greatest (greatest_set (drop l.i l.blocks)) ≡ greatest_set l.blocks
