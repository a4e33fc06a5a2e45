use Rattle.std.proofs.Common.{◌≡◌, drop}
use Rattle.std.specs.List.{flat_map}
use Rattle.gw_rules.specs.Checks.{first_broken}
use Rattle.gw_rules.specs.Weights.{exit_checks}
use Rattle.gw_weights.proofs.exits.check_exits.Given as goal

-- the first fault of the exits that are left is that of all
abbrev pub invariant-loop-exit : goal.invariant-loop-exit
invariant-loop-exit l =
    first_broken (flat_map (exit_checks l.parts l.number l.block) (drop l.exit-index l.exits))
    ≡ first_broken (flat_map (exit_checks l.parts l.number l.block) l.exits)
