use Rattle.std.proofs.Common.{◌≡◌, ◌+◌, drop}
use Rattle.gw_rules.specs.Checks.{first_broken, checks_by_number}
use Rattle.gw_kinds.proofs.checks.check_each.Given as goal

-- the first fault of the elements that are left is that of all
abbrev pub invariant-loop-i : goal.invariant-loop-i
invariant-loop-i g l =
    let checks = g.C.NumberedChecks.checks l.checks l.parts in
    first_broken (checks_by_number checks (l.first + l.i) (drop l.i l.elements)) ≡ first_broken (checks_by_number checks l.first l.elements)
