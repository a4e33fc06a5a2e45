use Rattle.std.proofs.Common.{rules, ◌≡◌, ◌<◌, ◌++◌, sym, subst}
use Rattle.std.specs.Prelude.{All, AllPairs}
use Rattle.std.proofs.lemmas.Result.{IfOk-weaker}
use Rattle.gw_rules.specs.declared.set_parameters.Parameter.{Parameter}
use Rattle.gw_rules.specs.Blocks.{FlowEdge, parameter_set, edges_from, joins}
use Rattle.gw_flow.specs.Known.{params_of, known_row}
use Rattle.gw_flow.specs.Answered.{SayTheSame, parameters_with}
use Rattle.gw_flow.proofs.Own.{own_at_edges, with_ascends}
use Rattle.gw_flow.proofs.flow.own_edges.Goals as goal

pub in_numbers_of-out-requires : goal.in_numbers_of-out-requires
in_numbers_of-out-requires c =
    let own : c.in_ok-parameters.parameters ≡ parameters_with (parameter_set c.args.number c.args.block.now) c.args.state.now.parameters = search rules in
    subst (AllPairs (λ (a b : Parameter). a.number < b.number)) (sym own)
    (with_ascends (parameter_set c.args.number c.args.block.now) c.args.state.now.parameters c.parts.ensures.ordered.parameters)

pub returns-clause-same : goal.returns-clause-same
returns-clause-same c =
    let rows = c.args.returns.now in
    let own : c.in_ok-parameters.parameters ≡ parameters_with (parameter_set c.args.number c.args.block.now) c.args.state.now.parameters = search rules in
    let edges : c.deref.result.now ≡ edges_from c.args.number c.args.block.now (known_row rows c.args.state.now)
    ++ joins c.args.block.now (known_row rows c.args.state.now) = search rules in
    let each : All (λ (e : FlowEdge). e.state.params ≡ params_of rows c.in_ok-parameters.parameters) c.deref.result.now =
    rw (own, edges) (own_at_edges rows c.args.number c.args.block.now c.args.state.now) in
    IfOk-weaker c.in_numbers_of-out.result _ _ (λ out same. subst (SayTheSame rows out.items) edges (same rows each)) c.in_numbers_of-out.ensures.same
