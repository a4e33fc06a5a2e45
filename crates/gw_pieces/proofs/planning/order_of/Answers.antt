use Rattle.std.proofs.Common.{◌∙◌, ap}
use Rattle.gw_names.specs.Ledger.{with_notes}
use Rattle.gw_pieces.specs.Order.{lookup_by, order_by}
use Rattle.gw_pieces.specs.Reasons.{surplus_in}
use Rattle.gw_pieces.proofs.Searching.{lookup_is}
use Rattle.gw_pieces.proofs.planning.order_of.Goals as goal

pub returns-clause-order : goal.returns-clause-order
returns-clause-order c =
    let ss = c.args.text.now.statements.items in
    c.in_ok-order.ensures ∙ ap (λ l. order_by (lookup_by c.args.known.now ss l)) c.in_ok-origins.ensures
    ∙ ap order_by (lookup_is ss c.args.known.now c.requires)

pub returns-clause-notes : goal.returns-clause-notes
returns-clause-notes c =
    let ss = c.args.text.now.statements.items in
    c.note_surplus.ensures.notes ∙ ap (λ l. with_notes c.args.ledger.now.least (surplus_in ss l)) (c.deref.ensures.value ∙ returns-clause-order c)
