use Rattle.gw_settle.proofs.Marking.{UnlinksSoFar}
use Rattle.gw_settle.proofs.table.mark_unlinks.Given as goal

abbrev pub invariant-loop-i : goal.invariant-loop-i
invariant-loop-i l = UnlinksSoFar l.blocks l.fn.marks.items l.marks.items l.i
