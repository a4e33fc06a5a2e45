use Rattle.std.proofs.Common.{rules, ◌≡◌, ◌+◌, drop, get_or, refl, subst}
use Rattle.gw_settle.specs.Drafts.{rows_held, IsSending, NotesGoOn}
use Rattle.gw_settle.specs.Rounds.{followed_by}
use Rattle.gw_settle.proofs.Uniting.{drop_at}
use Rattle.gw_settle.proofs.Sent.{Sending}
use Rattle.gw_settle.proofs.Drafting.{notes_stay, notes_on, whole_on, sending_on}
use Rattle.gw_settle.proofs.table.send_all.Goals as goal

pub loop-edge-init : goal.loop-edge-init
loop-edge-init c = record {
  sending = record { rows = refl; changes = refl; shape = c.requires.whole.shape };
  noted = notes_stay c.args.parts.now c.args.draft.now c.requires.whole;
}

pub send-requires-clause-whole : goal.send-requires-clause-whole
send-requires-clause-whole c =
    whole_on c.args.parts.now c.args.draft.now c.loop-edge.draft c.requires.whole c.loop-edge.invariant.noted c.loop-edge.invariant.sending.shape

pub loop-edge-preserved : goal.loop-edge-preserved
loop-edge-preserved c =
    let p = c.args.parts.now in
    let all = c.args.edges.now in
    let i = c.loop-edge.edge-index in
    let e = get_or all i c.edge-item.result in
    let start = c.args.draft.now in
    let now = c.loop-edge.draft in
    let next = c.send.new.draft in
    let before = subst (λ es. Sending p all es (rows_held start.rows) (rows_held now.rows) c.loop-edge.change)
    (drop_at all i c.edge-item.result c.loop-edge-test.true) c.loop-edge.invariant.sending in
    let later = drop (i + 1) all in
    let sent : IsSending p e now next c.in_ok-next.next = search rules in
    let noted : NotesGoOn p now next = search rules in
    let change : followed_by c.loop-edge.change c.in_ok-next.next ≡ c.followed_by-change.result = search rules in
    record {
      sending = subst (Sending p all later (rows_held start.rows) (rows_held next.rows)) change
          (sending_on p all later e start now next c.loop-edge.change c.in_ok-next.next before sent);
      noted = notes_on p start now next c.loop-edge.invariant.noted noted;
    }
