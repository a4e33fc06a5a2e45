use Rattle.std.proofs.Common.{drop}
use Rattle.gw_settle.specs.Drafts.{AreShared}
use Rattle.gw_settle.proofs.Drafting.{Behind}
use Rattle.gw_settle.proofs.passing.send_each.Given as goal

abbrev pub invariant-loop-caller : goal.invariant-loop-caller
invariant-loop-caller l = record {
  sent : Behind l.parts l.sent.row.now l.callers (drop l.caller-index l.callers) l.fn.draft l.draft l.change;
  shared : AreShared l.sent l.like l.draft;
}
