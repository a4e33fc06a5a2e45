use Rattle.std.proofs.Common.{rules, ◌↔◌, IsTrue, true≢false, sym, ◌∙◌}
use Rattle.gw_flow.specs.Known.{ParametersAscend, NumbersAscend, AmountsAscend, AreSome}
use Rattle.gw_flow.proofs.abstract_state.is_ordered.Goals as goal

pub returns-then-numbers_ascend : goal.returns-then-numbers_ascend
returns-then-numbers_ascend c =
    let s = c.args.parts.now in
    let ascends : IsTrue c.numbers_ascend.result ↔ (ParametersAscend s.parameters × NumbersAscend s.facilities) = search rules in
    let numbers = ascends.0 c.if-numbers_ascend.true in
    let amounts : IsTrue c.amounts_are_ordered.result ↔ (AmountsAscend s.units × AreSome s.units) = search rules in
    (λ t. record { parameters = numbers.0; facilities = numbers.1; units = (amounts.0 t).0; amounts = (amounts.0 t).1 }, λ h. amounts.1 (h.units, h.amounts))

pub returns-else-numbers_ascend : goal.returns-else-numbers_ascend
returns-else-numbers_ascend c =
    let s = c.args.parts.now in
    let ascends : IsTrue c.numbers_ascend.result ↔ (ParametersAscend s.parameters × NumbersAscend s.facilities) = search rules in
    (λ t. absurd (true≢false (sym t ∙ c.if-numbers_ascend.false)), λ h. ascends.1 (h.parameters, h.facilities))
