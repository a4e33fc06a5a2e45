use Rattle.gw_pieces.proofs.Made.{planned_still}
use Rattle.gw_pieces.proofs.pieces.take_entities.Goals as goal

pub invariant_of-plan : goal.invariant_of-plan
invariant_of-plan c = record { planned = planned_still c.args.plan.now _ }
