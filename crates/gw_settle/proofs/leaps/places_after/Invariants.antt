use Rattle.gw_settle.proofs.Slopes.{PlacesSoFar}
use Rattle.gw_settle.proofs.leaps.places_after.Given as goal

abbrev pub invariant-loop-i : goal.invariant-loop-i
invariant-loop-i l = PlacesSoFar l.times l.rows l.next l.all.items l.i
