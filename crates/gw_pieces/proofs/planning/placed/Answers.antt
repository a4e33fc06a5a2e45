use Rattle.std.proofs.Common.{◌∙◌, ap, arith}
use Rattle.gw_pieces.specs.Order.{lookup_by, ordered_by}
use Rattle.gw_pieces.proofs.Succeeding.{on_every_ok}
use Rattle.gw_pieces.proofs.Searching.{few_are_ordered}
use Rattle.gw_pieces.proofs.planning.placed.Goals as goal

pub returns-else-len-gt-MOST_PROCEDURES : goal.returns-else-len-gt-MOST_PROCEDURES
returns-else-len-gt-MOST_PROCEDURES c =
    let look = lookup_by c.args.known.now c.args.text.now.statements.items in
    on_every_ok c.ordered.result
    (λ order is. is ∙ ap (λ l. ordered_by (look l)) c.deref.ensures.value
    ∙ few_are_ordered (look c.args.origins.items) (omega (arith, c.if-len-gt-MOST_PROCEDURES.false, c.len.ensures))) c.ordered.ensures
