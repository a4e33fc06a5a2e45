use Rattle.std.proofs.Common.{◌≡◌, ◌+◌, drop}
use Rattle.gw_rules.specs.Checks.{first_broken, checks_by_number}
use Rattle.gw_rules.specs.Weights.{checks_at}
use Rattle.gw_weights.proofs.check.check_parts.Given as goal

-- the first fault of the blocks that are left is that of all
abbrev pub invariant-loop-i : goal.invariant-loop-i
invariant-loop-i l = first_broken (checks_by_number (checks_at l.parts) (l.i + 1) (drop l.i l.blocks))
    ≡ first_broken (checks_by_number (checks_at l.parts) 1 l.blocks)
