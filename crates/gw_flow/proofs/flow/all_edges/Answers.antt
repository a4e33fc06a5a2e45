use Rattle.std.proofs.Common.{rules, ◌++◌}
use Rattle.std.specs.Prelude.{option_to_list}
use Rattle.std.proofs.lemmas.Result.{IfOk-weaker}
use Rattle.gw_flow.specs.Known.{known_row}
use Rattle.gw_rules.specs.Flow.{own_table}
use Rattle.gw_flow.specs.Answered.{HaveOwn}
use Rattle.gw_rules.proofs.Chains.{chain_use}
use Rattle.gw_flow.proofs.OwnEdges.{all_have_own}
use Rattle.gw_flow.proofs.flow.all_edges.Goals as goal

pub returns-clause-own : goal.returns-clause-own
returns-clause-own c =
    let p = c.args.parts.now in
    let block = c.args.block.now in
    let given = c.args.state.now.parameters in
    let all : HaveOwn (c.in_ok-edges.edges.items ++ option_to_list c.in_ok-members_move.field-0) c.args.number block given =
    all_have_own p.returns (own_table p) c.args.number block (known_row p.returns c.args.state.now) given c.in_ok-edges.edges.items
    (option_to_list c.in_ok-members_move.field-0) (chain_use block) (search rules) c.in_ok-members_move.ensures c.in_ok-edges.ensures.own in
    IfOk-weaker c.with_last.result _ _ (λ out is. rw is all) c.with_last.ensures
