use Rattle.gw_alternatives.proofs.Lone.{lone}
use Rattle.gw_alternatives.proofs.alternatives.lone_point.Goals as goal

pub returns-in-Ok-list_of-clause-points : goal.returns-in-Ok-list_of-clause-points
returns-in-Ok-list_of-clause-points c =
    lone c.args.model.now c.args.count c.in-Ok.spec c.in-Ok-list_of.alternatives.items c.in-Ok.ensures.found c.in-Ok-list_of.ensures
