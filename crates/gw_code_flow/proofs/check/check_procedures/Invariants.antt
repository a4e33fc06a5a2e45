use Rattle.std.proofs.Common.{◌≡◌, drop, [], length}
use Rattle.gw_rules.specs.Checks.{first_broken}
use Rattle.gw_rules.specs.PlusChecks.{checks_from}
use Rattle.gw_code_flow.proofs.check.check_procedures.Given as goal

-- there is the cost of each procedure so far; the first fault of the procedures that are left is that of all
abbrev pub invariant-loop-i : goal.invariant-loop-i
invariant-loop-i l = record {
  count : length l.costs.items ≡ l.i;
  checks : first_broken (checks_from l.parts l.costs.items l.i (drop l.i l.procedures)) ≡ first_broken (checks_from l.parts [] 0 l.parts.procedures);
}
