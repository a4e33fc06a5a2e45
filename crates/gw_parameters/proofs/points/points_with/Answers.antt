use Rattle.std.proofs.Common.{inl}
use Rattle.gw_parameters.proofs.points.points_with.Goals as goal

pub returns-in-Ok-clause-points : goal.returns-in-Ok-clause-points
returns-in-Ok-clause-points c = inl (c.in-Ok.second, (rw c.in-Ok.is at c.parameter_in.ensures), c.grid_of.ensures.grid)
