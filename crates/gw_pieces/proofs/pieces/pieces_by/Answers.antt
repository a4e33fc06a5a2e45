use Rattle.std.proofs.Common.{◌∙◌, Vec, Global, ap, sym, subst}
use Rattle.gw_object.specs.declared.parts.Entity.{Entity}
use Rattle.gw_pieces.specs.declared.plan.Plan.{Plan}
use Rattle.gw_pieces.specs.Making.{AreMade, MakesCode}
use Rattle.gw_pieces.specs.Plans.{NotesCodeAndBlocks, text_planned}
use Rattle.gw_pieces.proofs.Made.{are_made, notes_are}
use Rattle.gw_pieces.proofs.pieces.pieces_by.Goals as goal

pub returns-clause-made : goal.returns-clause-made
returns-clause-made c none =
    let plan = c.args.plan.now in
    let entities = c.in_ok-entities.entities in
    let code = c.in_ok-procedures.field-0 in
    let made = subst (λ (p : Plan). MakesCode p c.entities_of.new.ledger c.code_by.new.ledger code) c.give_entities.ensures.1 c.in_ok-procedures.ensures.made in
    let g = made none in
    let e = c.in_ok-entities.ensures.sighted g.0 in
    let taken = ap (λ (v : Vec Entity Global). v.items) (c.take_entities-entities.ensures ∙ ap (λ (p : Plan). p.names.list) c.give_entities.ensures.1) in (
      e.0,
      λ few. subst (λ es. AreMade (text_planned plan) es code.procedures.items code.blocks.items) (sym taken)
          (are_made plan entities code.procedures.items code.blocks.items e.1 (g.1 few)),
    )

pub returns-clause-notes : goal.returns-clause-notes
returns-clause-notes c =
    let code = subst (λ (p : Plan). NotesCodeAndBlocks p c.entities_of.new.ledger c.code_by.new.ledger) c.give_entities.ensures.1
    c.in_ok-procedures.ensures.notes in
    notes_are c.args.plan.now c.in_ok-entities.entities _ _ _ c.in_ok-entities.ensures.notes code
