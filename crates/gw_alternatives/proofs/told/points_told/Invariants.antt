use Rattle.std.proofs.Common.{take}
use Rattle.gw_alternatives.specs.Told.{TellsAlternatives}
use Rattle.gw_alternatives.proofs.told.points_told.Given as goal

-- the alternatives so far are told
abbrev pub invariant-loop-i : goal.invariant-loop-i
invariant-loop-i g l = TellsAlternatives l.form l.request (take l.i l.alternatives) l.points.items l.fn.out.items l.out.items
