use Rattle.std.proofs.Common.{rules, ◌≡◌, ◌++◌, [], ◌∷◌, nat_lt, ap, ◌∙◌}
use Rattle.std.specs.Prelude.{filter}
use Rattle.gw_flow.specs.Known.{amounts_of}
use Rattle.gw_flow.specs.declared.abstract_state.Amount.{Amount}
use Rattle.gw_flow.proofs.Amounts.{entered, amounts-none, amounts-one, written}
use Rattle.gw_flow.proofs.lists.with_amount.Goals.{then-number-ne0+in_ok-push, else-number-ne0}
use Rattle.gw_flow.proofs.lists.with_amount.Goals as goal

pub returns : goal.returns
returns c =
    let below : c.in_ok-all.all.items ≡ filter (λ (a : Amount). nat_lt a.entity c.args.entity) c.args.amounts.now = search rules in
    let above : c.in_ok-above.above.items ≡ filter (λ (a : Amount). nat_lt c.args.entity a.entity) c.args.amounts.now = search rules in
    let whole : c.extend_from_slice.new.self.items ≡ c.if-number-ne0.all.items ++ c.in_ok-above.above.items =
    c.in_ok-extend_from_slice.ensures.items ∙ ap (λ ys. c.if-number-ne0.all.items ++ ys) c.deref.ensures.value in
    let here : amounts_of c.if-number-ne0.all.items ≡ amounts_of c.in_ok-all.all.items ++ entered c.args.entity c.args.number = elim c.if-number-ne0.branch [
      | then-number-ne0+in_ok-push w ↦
          let pushed : c.if-number-ne0.all.items ≡ c.in_ok-all.all.items ++ record { entity = c.args.entity; number = c.args.number } ∷ [] = search rules in
          ap amounts_of pushed ∙ amounts-one _ _ _ w.if-number-ne0.true
      | else-number-ne0 w ↦
          let same : c.if-number-ne0.all.items ≡ c.in_ok-all.all.items = search rules in
          ap amounts_of same ∙ amounts-none _ _ _ w.if-number-ne0.false
    ] in
    ap amounts_of (whole ∙ ap (λ xs. c.if-number-ne0.all.items ++ xs) above)
    ∙ written c.args.entity c.args.number c.args.amounts.now c.in_ok-all.all.items c.if-number-ne0.all.items below here
