use Rattle.std.proofs.Common.{◌≡◌, drop}
use Rattle.gw_rules.specs.Checks.{first_broken}
use Rattle.gw_rules.specs.PlusChecks.{code_checks, body_checks}
use Rattle.gw_code_flow.proofs.check.check_code.Given as goal

-- the first fault of the instructions that are left is that of all
abbrev pub invariant-loop-i : goal.invariant-loop-i
invariant-loop-i l =
    first_broken (code_checks l.parts l.number l.procedure l.heights l.i (drop l.i l.code)) ≡ first_broken (body_checks l.parts l.number l.procedure)
