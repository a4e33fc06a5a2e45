use Rattle.gw_pieces.proofs.Made.{planned_still, gets_entities}
use Rattle.gw_pieces.proofs.pieces.give_entities.Goals as goal

pub invariant_of-plan : goal.invariant_of-plan
invariant_of-plan c = record { planned = planned_still c.args.plan.now _ }

pub returns : goal.returns
returns c = gets_entities c.args.plan.now c.replace.new.dest c.args.entities c.replace.ensures.after _
