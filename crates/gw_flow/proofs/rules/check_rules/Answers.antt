use Rattle.std.proofs.Common.{map}
use Rattle.std.proofs.lemmas.Result.{err_from_is_err_and}
use Rattle.std.proofs.lemmas.List.{map-append}
use Rattle.gw_rules.proofs.Broken.{stops_first, joined}
use Rattle.gw_rules.specs.Blocks.{value_rules, own_rules}
use Rattle.gw_rules.specs.Flow.{rule_check}
use Rattle.gw_flow.proofs.rules.check_rules.Goals as goal

pub returns-in_err-check_values : goal.returns-in_err-check_values
returns-in_err-check_values g c =
    let known = g.S.Lookups.known c.args.state.now in
    let values = value_rules c.args.parts.now c.args.block.now known in
    let own = own_rules c.args.parts.now c.args.block.now known in
    let p = err_from_is_err_and c.from_residual.result c.from_residual.ensures.1 in
    rw (p.1, p.2) (rw (map-append (rule_check c.args.number) values own)
    (stops_first (map (rule_check c.args.number) values) _ _ c.in_err-check_values.ensures))

pub returns : goal.returns
returns g c =
    let known = g.S.Lookups.known c.args.state.now in
    let values = value_rules c.args.parts.now c.args.block.now known in
    let own = own_rules c.args.parts.now c.args.block.now known in
    rw (map-append (rule_check c.args.number) values own)
    (joined c.check_own_rules.result (map (rule_check c.args.number) values) (map (rule_check c.args.number) own)
    c.in_ok-check_values.ensures c.check_own_rules.ensures)
