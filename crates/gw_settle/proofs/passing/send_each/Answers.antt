use Rattle.std.proofs.Common.{rules, ◌≡◌, ◌+◌, drop, get_or, subst}
use Rattle.gw_settle.specs.Drafts.{IsRowSent}
use Rattle.gw_settle.specs.Rounds.{followed_by}
use Rattle.gw_settle.proofs.Uniting.{drop_at}
use Rattle.gw_settle.proofs.Drafting.{Behind, behind_start, behind_more}
use Rattle.gw_settle.proofs.passing.send_each.Goals as goal

pub loop-caller-init : goal.loop-caller-init
loop-caller-init c =
    let a = c.args in
    record {
      sent = behind_start a.parts.now a.sent.row.now a.callers.now a.draft.now c.requires.blocks;
      shared = c.requires.versions;
    }

pub loop-caller-preserved : goal.loop-caller-preserved
loop-caller-preserved c =
    let a = c.args in
    let l = c.loop-caller in
    let p = a.parts.now in
    let all = a.callers.now in
    let b = get_or all l.caller-index 0 in
    let later = drop (l.caller-index + 1) all in
    let row : IsRowSent p a.sent b c.send_row.new.like l.draft c.send_row.new.draft c.in_ok-next.next = search rules in
    let change : followed_by l.change c.in_ok-next.next ≡ c.followed_by-change.result = search rules in
    let before = subst (λ bs. Behind p a.sent.row.now all bs a.draft.now l.draft l.change)
    (drop_at all l.caller-index 0 c.loop-caller-test.true) l.invariant.sent in
    record {
      sent = subst (Behind p a.sent.row.now all later a.draft.now c.send_row.new.draft) change
          (behind_more p a.sent.row.now all later b a.draft.now l.draft c.send_row.new.draft l.change c.in_ok-next.next before row.at row.marks);
      shared = row.versions;
    }
