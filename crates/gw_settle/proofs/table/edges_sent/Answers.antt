use Rattle.std.proofs.Common.{rules, ◌≡◌, ◌++◌, [], true, false, map, ◌∙◌}
use Rattle.std.specs.Prelude.{is_err}
use Rattle.gw_rules.specs.Blocks.{rules as rules_of, edges_from, joins}
use Rattle.gw_rules.specs.Flow.{rule_check}
use Rattle.gw_settle.specs.Rounds.{members_from}
use Rattle.gw_settle.proofs.Sent.{rules_hold, rules_broken, broken_found, none_found, edges_are, edges_none}
use Rattle.gw_settle.proofs.table.edges_sent.Goals as goal

pub returns-then-is_err : goal.returns-then-is_err
returns-then-is_err c = λ table members.
    let checks = map (rule_check c.args.number) (rules_of c.args.parts.now c.args.block.now c.args.state.now) in
    let is : is_err c.check_rules.result ≡ true = search rules in
    let broken = broken_found c.check_rules.result checks is c.check_rules.ensures in
    let none : c.new.result.items ≡ [] = search rules in
    none ∙ edges_none c.args.parts.now table c.args.number c.args.block.now c.args.state.now
    (rules_broken c.args.number (rules_of c.args.parts.now c.args.block.now c.args.state.now) broken.0 broken.1)

pub returns : goal.returns
returns c = λ table members.
    let checks = map (rule_check c.args.number) (rules_of c.args.parts.now c.args.block.now c.args.state.now) in
    let is : is_err c.check_rules.result ≡ false = search rules in
    let held = none_found c.check_rules.result checks is c.check_rules.ensures in
    let all : c.push_members.new.all.items
    ≡ (edges_from c.args.number c.args.block.now c.args.state.now ++ joins c.args.block.now c.args.state.now)
    ++ members_from c.args.block.now c.args.members.now = search rules in
    all ∙ edges_are c.args.parts.now table c.args.number c.args.block.now c.args.state.now c.args.members.now members
    (rules_hold c.args.number (rules_of c.args.parts.now c.args.block.now c.args.state.now) held)
