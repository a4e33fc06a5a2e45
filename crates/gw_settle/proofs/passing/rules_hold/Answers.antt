use Rattle.std.proofs.Common.{rules, ◌≡◌, subst}
use Rattle.std.specs.Prelude.{is_err}
use Rattle.gw_rules.specs.Checks.{Finds}
use Rattle.gw_rules.specs.Flow.{rule_checks}
use Rattle.gw_settle.proofs.Drafting.{hold_where_found}
use Rattle.gw_settle.proofs.passing.rules_hold.Goals as goal

pub returns : goal.returns
returns c =
    let a = c.args in
    let same : c.in_ok-state.state ≡ a.row.now = search rules in
    let found = subst (λ row. Finds c.check_rules.result (rule_checks a.parts.now a.number a.block.now row)) same c.check_rules.ensures in
    let is : is_err c.check_rules.result ≡ c.is_err.result = search rules in
    hold_where_found a.parts.now a.number a.block.now a.row.now c.check_rules.result c.is_err.result is found
