use Rattle.std.proofs.Common.{rules, refl, sym, subst}
use Rattle.std.specs.Prelude.{All}
use Rattle.std.proofs.lemmas.Result.{IfOk-weaker}
use Rattle.gw_rules.specs.Blocks.{FlowEdge}
use Rattle.gw_settle.specs.Drafts.{rows_held}
use Rattle.gw_settle.specs.Keeps.{MayEnter}
use Rattle.gw_settle.proofs.Kept.{row_room, sends_enter}
use Rattle.gw_settle.proofs.Drafting.{sent_are, sent_is_visit}
use Rattle.gw_settle.proofs.table.visit_by_edges.Goals as goal

pub edges_in-requires-clause-room : goal.edges_in-requires-clause-room
edges_in-requires-clause-room c =
    row_room c.args.parts.now c.args.number c.args.row.now (rows_held c.args.draft.now.rows) c.requires.may.well c.requires.may.sound c.requires.row

pub send_all-change-requires-clause-enter : goal.send_all-change-requires-clause-enter
send_all-change-requires-clause-enter c =
    let sent = sent_are c.args.parts.now c.args.draft.now c.args.number c.args.block.now c.args.row.now c.args.row.now
    c.args.members.now c.deref.result.now c.in_ok-edges.edges.items (search rules) refl c.in_ok-edges.ensures
    c.requires.members c.requires.there c.requires.row in
    subst (All (λ (e : FlowEdge). MayEnter c.args.parts.now e.target)) (sym sent)
    (sends_enter c.args.parts.now c.args.number (rows_held c.args.draft.now.rows) c.requires.may.well c.requires.may.sound)

pub returns-clause-visited : goal.returns-clause-visited
returns-clause-visited c =
    let sent = sent_are c.args.parts.now c.args.draft.now c.args.number c.args.block.now c.args.row.now c.args.row.now
    c.args.members.now c.deref.result.now c.in_ok-edges.edges.items (search rules) refl c.in_ok-edges.ensures
    c.requires.members c.requires.there c.requires.row in
    IfOk-weaker c.send_all-change.result _ _
    (λ change h. sent_is_visit c.args.parts.now c.args.number c.deref.result.now c.args.draft.now c.send_all-change.new.draft change sent h)
    c.send_all-change.ensures.sent
