use Rattle.gw_settle.specs.Jumps.{number_after}
use Rattle.gw_settle.proofs.Keeping.{UnitsSoFar}
use Rattle.gw_settle.proofs.known.units_after.Given as goal

abbrev pub invariant-loop-i : goal.invariant-loop-i
invariant-loop-i l = UnitsSoFar (number_after l.times) l.units l.next l.all.items l.i
