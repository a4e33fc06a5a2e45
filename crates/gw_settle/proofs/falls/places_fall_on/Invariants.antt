use Rattle.gw_settle.proofs.Placing.{FallOnTo}
use Rattle.gw_settle.proofs.falls.places_fall_on.Given as goal

-- the rows so far fall on
abbrev pub invariant-loop-i : goal.invariant-loop-i
invariant-loop-i l = FallOnTo l.times l.rows l.next l.second l.last l.i
