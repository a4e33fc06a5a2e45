use Rattle.std.proofs.Common.{rules}
use Rattle.gw_settle.specs.Drafts.{AreShared}
use Rattle.gw_settle.proofs.Sharing.{sharing_known, sharing_ends}
use Rattle.gw_settle.proofs.passing.send_behind.Goals as goal

pub send_each-requires-clause-versions : goal.send_each-requires-clause-versions
send_each-requires-clause-versions c =
    let a = c.args in
    sharing_known a.sent.parameter a.sent.row.now a.sent.version a.draft.now.newest a.draft.now.latest c.like_known-like.result
    a.draft.now.versions.items a.draft.now.rows.blocks.items c.like_known-like.ensures c.requires.versions

pub returns-clause-noted : goal.returns-clause-noted
returns-clause-noted c =
    let a = c.args in
    let d = c.send_each.new.draft in
    let shared : AreShared a.sent c.send_each.new.like d = search rules in
    record {
      marks = search rules;
      versions = sharing_ends a.sent.parameter a.sent.row.now a.sent.version d.newest c.latest_of-draft.result c.send_each.new.like
          d.versions.items d.rows.blocks.items c.latest_of-draft.ensures shared;
    }
