use Rattle.std.proofs.Common.{◌≡◌, ◌+◌, length}
use Rattle.gw_settle.specs.Rounds.{AreReached}
use Rattle.gw_settle.specs.Drafts.{rows_held, AreNoted}
use Rattle.gw_settle.specs.Keeps.{absent}
use Rattle.gw_settle.proofs.Falling.{size}
use Rattle.gw_settle.proofs.rounds.settle_rows.Given as goal

abbrev pub invariant-less : goal.invariant-less
invariant-less l = record {
  rows : AreReached l.parts (rows_held l.draft.rows);
  absent : absent (rows_held l.draft.rows) ≡ absent (rows_held l.initial.draft.rows);
  noted : AreNoted l.parts l.draft;
}

abbrev pub decreases-less : goal.decreases-less
decreases-less l = size (length l.parts.blocks + 1) (rows_held l.draft.rows)

abbrev pub invariant-more : goal.invariant-more
invariant-more l = record {
  rows : AreReached l.parts (rows_held l.draft.rows);
  noted : AreNoted l.parts l.draft;
}

abbrev pub decreases-more : goal.decreases-more
decreases-more l = absent (rows_held l.draft.rows)
