use Rattle.std.proofs.Common.{◌∙◌, sym}
use Rattle.std.proofs.lemmas.Bool.{eqb-true}
use Rattle.gw_rows.proofs.AmountFields.{none_in_empty}
use Rattle.gw_rows.proofs.amounts.amount_in.Goals as goal

pub returns-then-is_empty : goal.returns-then-is_empty
returns-then-is_empty c = λ value h is. none_in_empty c.args.field.now value (eqb-true _ 0 (sym c.is_empty.ensures ∙ c.if-is_empty.true)) h is
