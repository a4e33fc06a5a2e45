use Rattle.std.proofs.Common.{rules, ◌≡◌, ◌∙◌, sym, ap, length, true, false, refl}
use Rattle.std.specs.Prelude.{◌==◌}
use Rattle.gw_pieces.specs.Origins.{whole_call}
use Rattle.gw_pieces.proofs.Rows.{whole_of_call}
use Rattle.gw_pieces.proofs.origins.whole_call.Goals as goal

pub returns-then-is_empty : goal.returns-then-is_empty
returns-then-is_empty c =
    let none : (length c.in-Call.arguments.items == 0) ≡ true = search rules in
    sym (ap whole_call c.in-Call.is ∙ whole_of_call c.in-Call.name c.in-Call.arguments ∙ rw none refl)

pub returns-else-is_empty : goal.returns-else-is_empty
returns-else-is_empty c =
    let some : (length c.in-Call.arguments.items == 0) ≡ false = search rules in
    sym (ap whole_call c.in-Call.is ∙ whole_of_call c.in-Call.name c.in-Call.arguments ∙ rw some refl)
