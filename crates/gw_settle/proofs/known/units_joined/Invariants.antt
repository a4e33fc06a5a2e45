use Rattle.std.proofs.Common.{min}
use Rattle.gw_settle.proofs.Keeping.{UnitsSoFar}
use Rattle.gw_settle.proofs.known.units_joined.Given as goal

abbrev pub invariant-loop-i : goal.invariant-loop-i
invariant-loop-i l = UnitsSoFar min l.units l.state l.all.items l.i
