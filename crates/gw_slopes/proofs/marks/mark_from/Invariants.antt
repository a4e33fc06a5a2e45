use Rattle.gw_slopes.specs.Marking.{StaySound}
use Rattle.gw_slopes.proofs.marks.mark_from.Given as goal

-- the marks are sound if they were
abbrev pub invariant-loop : goal.invariant-loop
invariant-loop l = StaySound l.parts l.parameter l.fn.marks l.marks
