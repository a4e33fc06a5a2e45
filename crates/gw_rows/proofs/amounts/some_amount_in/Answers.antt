use Rattle.std.proofs.Common.{◌∙◌, sym, subst, refl}
use Rattle.std.proofs.lemmas.Int.{to_z-of_z}
use Rattle.std.specs.Int.{w128}
use Rattle.gw_rows.proofs.AmountFields.{SaysSize, with_sign, without_sign}
use Rattle.gw_rows.proofs.amounts.some_amount_in.Goals as goal

pub returns-then-has_sign : goal.returns-then-has_sign
returns-then-has_sign c = λ z fits is.
    to_z-of_z w128 c.signed.result (record { sfits = c.signed.type_inv })
    ∙ with_sign c.args.field.now c.size_in.result c.signed.result (sym c.has_sign.ensures ∙ c.if-has_sign.true)
    (subst (λ ls. SaysSize ls c.size_in.result) c.behind_first.ensures c.size_in.ensures)
    (λ n h is. c.signed.ensures.below n h is refl) z fits is

pub returns-else-has_sign : goal.returns-else-has_sign
returns-else-has_sign c = λ z fits is.
    to_z-of_z w128 c.signed-else-has_sign.result (record { sfits = c.signed-else-has_sign.type_inv })
    ∙ without_sign c.args.field.now c.size_in-else-has_sign.result c.signed-else-has_sign.result (sym c.has_sign.ensures ∙ c.if-has_sign.false)
    c.size_in-else-has_sign.ensures (λ n h is. c.signed-else-has_sign.ensures.above n h is refl) z fits is
