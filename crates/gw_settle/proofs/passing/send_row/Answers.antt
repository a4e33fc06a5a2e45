use Rattle.gw_settle.proofs.Drafting.{at_marks}
use Rattle.gw_settle.proofs.passing.send_row.Goals as goal

pub returns : goal.returns
returns c = record {
  at = c.in_ok-change.ensures.sent;
  marks = at_marks c.args.parts.now c.args.sent.row.now c.args.place c.args.draft.now c.send_first.new.draft c.in_ok-change.change
      c.requires.place c.requires.blocks c.in_ok-change.ensures.sent c.in_ok-change.ensures.marks;
  versions = c.in_ok-change.ensures.versions;
}
