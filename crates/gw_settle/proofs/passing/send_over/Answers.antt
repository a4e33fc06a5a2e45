use Rattle.std.proofs.Common.{rules, ◌≡◌, ◌≢◌, ◌<◌, length, get_or, true, Some, arith, ap, ◌∙◌}
use Rattle.gw_settle.specs.Drafts.{MakesOf}
use Rattle.gw_settle.specs.Joins.{with_state}
use Rattle.gw_settle.specs.Jumps.{row_in}
use Rattle.gw_settle.specs.Rounds.{sent_at, change_of}
use Rattle.gw_settle.specs.Versions.{without_version, Sets}
use Rattle.gw_settle.proofs.Sharing.{read_or, itself_is, sharing_first}
use Rattle.gw_settle.proofs.Drafting.{is_sent_at}
use Rattle.gw_settle.proofs.passing.send_over.Goals as goal

pub like_of-requires-clause-itself : goal.like_of-requires-clause-itself
like_of-requires-clause-itself c = λ is.
    let state = c.args.sent.row.now in
    let rows = c.args.draft.now.rows.blocks.items in
    let new : c.send_known.new.rows.items ≡ sent_at state c.args.place rows = search rules in
    let same : row_in c.send_known.new.rows.items c.args.place ≡ Some state = search rules in
    ap (with_state state) c.requires.before ∙ itself_is state c.args.place rows c.send_known.new.rows.items c.requires.place new same

pub returns-clause-versions : goal.returns-clause-versions
returns-clause-versions c =
    let a = c.args in
    let state = a.sent.row.now in
    let rows = a.draft.now.rows.blocks.items in
    let versions = a.draft.now.versions.items in
    let itself = c.share_version-itself.result in
    let new : c.send_known.new.rows.items ≡ sent_at state a.place rows = search rules in
    let change : c.in_ok-change.change ≡ change_of state (row_in rows a.place) = search rules in
    let without : c.note.new.versions.items ≡ without_version c.in_ok-change.change a.place versions = search rules in
    let shared : Sets itself a.place a.sent.version c.note.new.versions.items c.share_version-itself.new.versions.items = search rules in
    let within : a.place < length versions = omega (arith, c.requires.place, c.requires.versions.length) in
    let read : c.index-version.result.now ≡ get_or versions a.place c.index-version.result.now = search rules in
    let version : c.like_of.result.version ≢ 0 → c.like_of.result.version ≡ get_or versions a.place 0 =
    λ has. c.like_of.ensures.version has ∙ read ∙ read_or versions a.place c.index-version.result.now 0 within in
    let makes : c.like_of.result.version ≢ 0 → MakesOf a.sent (row_in rows a.place) c.like_of.result = search rules in
    let same : itself ≡ true → row_in c.send_known.new.rows.items a.place ≡ Some state = search rules in
    sharing_first a.sent.parameter state a.sent.version a.draft.now.newest a.like.now c.like_of.result versions c.note.new.versions.items
    c.share_version-itself.new.versions.items rows c.send_known.new.rows.items a.place c.in_ok-change.change itself
    within change new without shared same (λ has. (version has, makes has)) c.requires.versions

pub returns-clause-sent : goal.returns-clause-sent
returns-clause-sent c = is_sent_at c.args.sent.row.now c.args.place c.args.draft.now _ c.in_ok-change.change (search rules) (search rules) (search rules)
