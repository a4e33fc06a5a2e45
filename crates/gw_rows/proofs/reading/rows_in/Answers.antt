use Rattle.std.proofs.Common.{◌∙◌, sym}
use Rattle.std.proofs.lemmas.Bool.{eqb-true}
use Rattle.gw_rows.proofs.RowFields.{no_rows}
use Rattle.gw_rows.proofs.reading.rows_in.Goals as goal

pub returns-then-is_empty : goal.returns-then-is_empty
returns-then-is_empty c = λ n h is. no_rows c.args.field.now n h (eqb-true _ 0 (sym c.is_empty.ensures ∙ c.if-is_empty.true)) is
