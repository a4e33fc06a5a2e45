use Rattle.std.proofs.Common.{◌≡◌, ◌∙◌, ◌≤◌, length, sym, ap, subst}
use Rattle.gw_text.specs.declared.model.Model.{Model}
use Rattle.gw_pieces.specs.Making.{AreMade, NotesPieces}
use Rattle.gw_pieces.specs.Order.{order_in}
use Rattle.gw_pieces.specs.Plans.{text_planned}
use Rattle.gw_pieces.proofs.Succeeding.{on_ok, on_every_ok}
use Rattle.gw_pieces.proofs.pieces.pieces_of.Goals as goal

pub returns-in-Ok-clause-made : goal.returns-in-Ok-clause-made
returns-in-Ok-clause-made c =
    let same : text_planned c.in-Ok.plan ≡ c.args.text.now.statements.items = ap (λ (m : Model). m.statements.items) c.in-Ok.ensures.plan in
    on_every_ok c.pieces_by-pieces.result (λ pieces h none.
    let g = h none in
    let few = c.in-Ok.ensures.few g.0 in
    let named = c.in-Ok.ensures.named g.0 in
    let enough = subst (λ l. length l ≤ 256) (sym (c.in-Ok.plan.planned.numbers.ordered ∙ ap order_in same)) few.1 in
    let made = subst (λ ss. AreMade ss pieces.entities.items pieces.procedures.items pieces.blocks.items) same (g.1 enough) in
    (few.0, record { made = made; named = named.1 })) c.pieces_by-pieces.ensures.made

pub returns-in-Ok-clause-notes : goal.returns-in-Ok-clause-notes
returns-in-Ok-clause-notes c =
    let ss = c.args.text.now.statements.items in
    let same : text_planned c.in-Ok.plan ≡ ss = ap (λ (m : Model). m.statements.items) c.in-Ok.ensures.plan in
    let after = c.pieces_by-pieces.new.ledger.least in
    on_ok c.pieces_by-pieces.result (λ h.
    let of_text = subst (λ xs. NotesPieces xs c.plan_of.new.ledger.least after) same h in
    subst (λ least. NotesPieces ss least after) c.in-Ok.ensures.notes of_text) c.pieces_by-pieces.ensures.notes
