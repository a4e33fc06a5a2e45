use Rattle.std.proofs.Common.{rules, of_calls, nat_lt}
use Rattle.std.proofs.lemmas.Fn.{always_returns_same}
use Rattle.gw_rules.specs.declared.set_parameters.Parameter.{Parameter}
use Rattle.gw_flow.proofs.Ascending.{ascends_by_answer}
use Rattle.gw_flow.proofs.abstract_state.parameters_ascend.Goals as goal

pub returns : goal.returns
returns c = ascends_by_answer (λ (p : Parameter). p.number) c.args.parameters.now c.is_sorted_by.result
    (c.is_sorted_by.ensures.cases (λ (a b : Parameter). nat_lt a.number b.number) (always_returns_same _ _ _ (λ a r f k. search (rules, of_calls))))
