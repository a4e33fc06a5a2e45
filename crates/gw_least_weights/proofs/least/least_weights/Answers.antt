use Rattle.std.proofs.Common.{◌≡◌, rules, List}
use Rattle.std.specs.List.Sorted.{IsPermutation, IsNonDecreasingBy}
use Rattle.std.proofs.lemmas.List.Sorted.{IsNonDecreasingBy-from_sort, answers_always}
use Rattle.std.proofs.lemmas.Result.{IfOk-weaker}
use Rattle.gw_least_weights.specs.declared.rules.Rule.{Rule}
use Rattle.gw_least_weights.proofs.Sorted.{in_order, still_least}
use Rattle.gw_least_weights.proofs.least.least_weights.Goals as goal

pub least_in_order-requires-clause-order : goal.least_in_order-requires-clause-order
least_in_order-requires-clause-order c =
    let sorting = c.sort_unstable_by_key.ensures in
    let sorted : List Rule = c.deref.result.now in
    let moved : IsPermutation c.args.rules.items sorted = search rules in
    let same : sorted ≡ c.sort_unstable_by_key.new.self.items = search rules in
    let up : IsNonDecreasingBy (λ (r : Rule). r.turn) sorted =
    rw same (IsNonDecreasingBy-from_sort (λ (r : Rule). r.turn) _
    (sorting.sorted (λ (r : Rule). r.turn) (answers_always _ _ _ (λ f a r g h. search rules)))) in
    in_order c.args.rules.items sorted moved c.args.counted c.args.count c.requires.system up

pub returns-clause-least : goal.returns-clause-least
returns-clause-least c =
    let moved : IsPermutation c.args.rules.items c.deref.result.now = search rules in
    IfOk-weaker c.least_in_order.result _ _ (λ v h. still_least c.args.rules.items c.deref.result.now moved c.args.count v.items h)
    c.least_in_order.ensures.least
