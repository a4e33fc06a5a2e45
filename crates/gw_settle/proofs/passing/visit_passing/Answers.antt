use Rattle.std.proofs.Common.{rules, ◌≡◌, ◌<◌, ◌-◌, length, get_or, true, false, sym, subst}
use Rattle.gw_settle.specs.Drafts.{rows_held}
use Rattle.gw_settle.specs.Versions.{IsGiven, rules_hold}
use Rattle.gw_settle.proofs.Kept.{sends_enter}
use Rattle.gw_settle.proofs.Sharing.{passed_within, version_given}
use Rattle.gw_settle.proofs.Drafting.{place_within, row_there, whole_blocks, notes_stay, passed_is_visit, none_is_visit}
use Rattle.gw_settle.proofs.passing.visit_passing.Goals as goal

pub returns-then-not-branch-clause-visited : goal.returns-then-not-branch-clause-visited
returns-then-not-branch-clause-visited c =
    let a = c.args in
    let holds : rules_hold a.parts.now a.block.now a.row.now ≡ false = search rules in
    none_is_visit a.parts.now a.number a.block.now a.row.now a.callers.now a.draft.now c.requires.there c.requires.row c.requires.sends holds

pub returns-then-not-branch-clause-noted : goal.returns-then-not-branch-clause-noted
returns-then-not-branch-clause-noted c = notes_stay c.args.parts.now c.args.draft.now c.requires.may.whole

pub version_at-version-requires : goal.version_at-version-requires
version_at-version-requires c =
    subst (λ vs. c.args.number - 1 < length vs) (sym c.deref.ensures.value)
    (place_within c.args.parts.now c.args.draft.now c.args.number c.args.row.now c.requires.may.whole c.requires.row)

pub send_behind-requires-clause-callers : goal.send_behind-requires-clause-callers
send_behind-requires-clause-callers c =
    let a = c.args in
    let rows = a.draft.now.rows in
    let holds : rules_hold a.parts.now a.block.now a.row.now ≡ true = search rules in
    passed_within a.parts.now a.number a.block.now a.row.now a.callers.now rows.blocks.items rows.chains.items c.requires.there
    c.requires.row c.requires.sends (sends_enter a.parts.now a.number (rows_held rows) c.requires.may.well c.requires.may.sound) holds

pub send_behind-requires-clause-blocks : goal.send_behind-requires-clause-blocks
send_behind-requires-clause-blocks c = let all = whole_blocks c.args.parts.now c.args.draft.now c.requires.may.whole in
    record { rows = all.rows; marks = all.marks }

pub send_behind-requires-clause-versions : goal.send_behind-requires-clause-versions
send_behind-requires-clause-versions c =
    let a = c.args in
    let d = a.draft.now in
    version_given d.latest d.versions.items d.rows.blocks.items d.newest c.requires.may.whole.versions a.row.now (a.number - 1)
    c.version_at-version.result c.version_at-version.new.newest (row_there a.parts.now d a.number a.row.now c.requires.row)
    (subst (λ vs. IsGiven (get_or vs (a.number - 1) 0) d.newest c.version_at-version.result c.version_at-version.new.newest)
    c.deref.ensures.value c.version_at-version.ensures)

pub returns-clause-visited : goal.returns-clause-visited
returns-clause-visited c =
    let a = c.args in
    let holds : rules_hold a.parts.now a.block.now a.row.now ≡ true = search rules in
    let sent = c.in_ok-change.ensures.sent in
    passed_is_visit a.parts.now a.number a.block.now a.row.now a.callers.now a.draft.now c.send_behind.new.draft _ c.requires.there
    c.requires.row c.requires.sends holds (record { rows = sent.rows; is = sent.is })

pub returns-clause-noted : goal.returns-clause-noted
returns-clause-noted c = let noted = c.in_ok-change.ensures.noted in record { marks = noted.marks; versions = noted.versions }
