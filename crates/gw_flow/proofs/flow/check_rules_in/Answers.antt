use Rattle.std.proofs.Common.{subst}
use Rattle.gw_rules.specs.Checks.{Finds}
use Rattle.gw_rules.specs.Flow.{rule_checks}
use Rattle.gw_flow.specs.Known.{known_row}
use Rattle.gw_flow.proofs.flow.check_rules_in.Goals as goal

pub returns : goal.returns
returns c =
    subst (λ rows. Finds c.check_rules.result
    (rule_checks c.args.parts.now c.args.number c.args.block.now (known_row rows c.args.state.now))) c.as_slice-returns.ensures c.check_rules.ensures
