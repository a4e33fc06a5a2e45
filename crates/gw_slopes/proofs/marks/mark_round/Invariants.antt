use Rattle.gw_slopes.specs.Marking.{IsOn}
use Rattle.gw_slopes.proofs.marks.mark_round.Given as goal

-- so many steps were made
abbrev pub invariant-loop-i : goal.invariant-loop-i
invariant-loop-i l = IsOn l.parts l.parameter l.i l.fn.marks l.marks l.marked
