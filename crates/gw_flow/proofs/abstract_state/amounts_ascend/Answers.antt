use Rattle.std.proofs.Common.{rules, of_calls, nat_lt}
use Rattle.std.proofs.lemmas.Fn.{always_returns_same}
use Rattle.gw_flow.specs.declared.abstract_state.Amount.{Amount}
use Rattle.gw_flow.proofs.Ascending.{ascends_by_answer}
use Rattle.gw_flow.proofs.abstract_state.amounts_ascend.Goals as goal

pub returns : goal.returns
returns c = ascends_by_answer (λ (a : Amount). a.entity) c.args.amounts.now c.is_sorted_by.result
    (c.is_sorted_by.ensures.cases (λ (a b : Amount). nat_lt a.entity b.entity) (always_returns_same _ _ _ (λ a r f k. search (rules, of_calls))))
