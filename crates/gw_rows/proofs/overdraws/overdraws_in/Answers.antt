use Rattle.std.proofs.Common.{◌∙◌, ap, sym}
use Rattle.std.proofs.lemmas.Bool.{eqb-true}
use Rattle.gw_rows.specs.Rows.{lent_texts}
use Rattle.gw_rows.proofs.StreamFields.{none_in_empty, of_texts}
use Rattle.gw_rows.proofs.overdraws.overdraws_in.Goals as goal

pub returns-then-is_empty : goal.returns-then-is_empty
returns-then-is_empty c = λ os each is.
    c.new.ensures.items ∙ none_in_empty c.args.field.now os (eqb-true _ 0 (sym c.is_empty.ensures ∙ c.if-is_empty.true)) is

pub returns : goal.returns
returns c =
    of_texts c.overdraws_of.result (lent_texts c.deref.result.now) c.args.field.now (sym c.is_empty.ensures ∙ c.if-is_empty.false)
    (ap lent_texts c.deref.ensures.value ∙ c.in_ok-texts.ensures) c.overdraws_of.ensures
