use Rattle.gw_settle.specs.Drafts.{AreNoted, Steps}
use Rattle.gw_settle.specs.Rounds.{visited_to, change_to}
use Rattle.gw_settle.proofs.table.next_round.Given as goal

abbrev pub invariant-loop-i : goal.invariant-loop-i
invariant-loop-i l = record {
  visited : Steps (visited_to l.parts l.i) (change_to l.parts l.i) l.fn.draft l.draft l.change;
  noted : AreNoted l.parts l.draft;
}
