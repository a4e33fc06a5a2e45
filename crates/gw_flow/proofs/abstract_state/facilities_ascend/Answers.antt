use Rattle.std.proofs.Common.{rules, of_calls, nat_lt}
use Rattle.std.proofs.lemmas.Fn.{always_returns_same}
use Rattle.gw_flow.proofs.Ascending.{ascends_by_answer}
use Rattle.gw_flow.proofs.abstract_state.facilities_ascend.Goals as goal

pub returns : goal.returns
returns c = ascends_by_answer (λ n. n) c.args.facilities.now c.is_sorted_by.result
    (c.is_sorted_by.ensures.cases (nat_lt) (always_returns_same _ _ _ (λ a r f k. search (rules, of_calls))))
