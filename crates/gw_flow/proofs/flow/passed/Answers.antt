use Rattle.std.proofs.Common.{rules, ◌≡◌, ◌<◌, sym, subst, ◌∙◌, ap}
use Rattle.std.specs.Prelude.{AllPairs}
use Rattle.std.proofs.lemmas.Result.{IfOk-weaker}
use Rattle.gw_rules.specs.declared.set_parameters.Parameter.{Parameter}
use Rattle.gw_rules.specs.Rows.{Row}
use Rattle.gw_flow.specs.Known.{params_of, known_row}
use Rattle.gw_flow.specs.Answered.{parameters_with}
use Rattle.gw_rules.specs.Blocks.{parameter_set, after}
use Rattle.gw_flow.proofs.Own.{own_after, with_ascends}
use Rattle.gw_flow.proofs.flow.passed.Goals as goal

pub in_numbers_of-out-requires : goal.in_numbers_of-out-requires
in_numbers_of-out-requires c =
    let own : c.in_ok-parameters.parameters ≡ parameters_with (parameter_set c.args.number c.args.block.now) c.args.state.now.parameters = search rules in
    subst (AllPairs (λ (a b : Parameter). a.number < b.number)) (sym own)
    (with_ascends (parameter_set c.args.number c.args.block.now) c.args.state.now.parameters c.parts.ensures.ordered.parameters)

pub returns : goal.returns
returns c =
    let rows = c.args.returns.now in
    let own : c.in_ok-parameters.parameters ≡ parameters_with (parameter_set c.args.number c.args.block.now) c.args.state.now.parameters = search rules in
    let passed : c.in_ok-passed.passed ≡ after c.args.number c.args.block.now (known_row rows c.args.state.now) = search rules in
    let params : c.in_ok-passed.passed.params ≡ params_of rows c.in_ok-parameters.parameters = ap (λ (row : Row). row.params) passed
    ∙ own_after rows c.args.number c.args.block.now c.args.state.now ∙ ap (params_of rows) (sym own) in
    IfOk-weaker c.in_numbers_of-out.result _ _ (λ s same. same rows params ∙ passed) c.in_numbers_of-out.ensures.same
