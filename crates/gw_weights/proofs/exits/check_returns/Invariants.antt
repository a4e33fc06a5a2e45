use Rattle.std.proofs.Common.{◌≡◌, map, drop}
use Rattle.std.specs.List.{flat_map}
use Rattle.gw_rules.specs.Checks.{first_broken}
use Rattle.gw_rules.specs.Exits.{returns_to}
use Rattle.gw_rules.specs.Weights.{exit_checks}
use Rattle.gw_weights.proofs.exits.check_returns.Given as goal

-- the first fault of the exits that are left is that of all
abbrev pub invariant-loop-caller : goal.invariant-loop-caller
invariant-loop-caller l =
    first_broken (flat_map (exit_checks l.parts l.number l.block) (map returns_to (drop l.caller-index l.callers)))
    ≡ first_broken (flat_map (exit_checks l.parts l.number l.block) (map returns_to l.callers))
