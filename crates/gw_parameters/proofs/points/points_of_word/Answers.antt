use Rattle.std.proofs.Common.{inl}
use Rattle.gw_parameters.proofs.points.points_of_word.Goals as goal

pub returns-in-Ok-clause-points : goal.returns-in-Ok-clause-points
returns-in-Ok-clause-points c = inl (c.in-Ok.parameter, (rw c.in-Ok.is at c.parameter_in.ensures), c.line_of.ensures.line)
