use Rattle.gw_pieces.specs.Plans.{names_planned, order_planned, text_planned}
use Rattle.gw_pieces.proofs.Reasoning.{code_and_blocks}
use Rattle.gw_pieces.proofs.pieces.code_by.Goals as goal

pub returns-clause-notes : goal.returns-clause-notes
returns-clause-notes c =
    let plan = c.args.plan.now in
    code_and_blocks (names_planned plan) (order_planned plan) (text_planned plan) _ _ _ c.in_ok-procedures.ensures.notes c.in_ok-blocks.ensures.notes
