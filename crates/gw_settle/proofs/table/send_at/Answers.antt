use Rattle.std.proofs.Common.{rules, ◌≡◌, true, false, Some, None, slice_set, refl, ap, ◌∙◌}
use Rattle.std.specs.Prelude.{slice_get}
use Rattle.gw_settle.specs.Joins.{is_within, join_rows, with_state}
use Rattle.gw_settle.proofs.Sent.{full_at, set_is, stays_is}
use Rattle.gw_settle.proofs.table.send_at.Goals as goal

pub returns-then-branch-clause-rows : goal.returns-then-branch-clause-rows
returns-then-branch-clause-rows c =
    let full : slice_get c.args.rows.now.items c.args.place ≡ Some (Some c.in-Some.row) =
    full_at c.args.rows.now.items c.args.place c.index.result.now (Some c.in-Some.row) c.requires (search rules) in
    let within : is_within c.args.state.now c.in-Some.row ≡ true = search rules in
    stays_is c.args.state.now c.args.place c.args.rows.now.items c.in-Some.row full within

pub returns-then-branch-clause-change : goal.returns-then-branch-clause-change
returns-then-branch-clause-change c =
    let full : slice_get c.args.rows.now.items c.args.place ≡ Some (Some c.in-Some.row) =
    full_at c.args.rows.now.items c.args.place c.index.result.now (Some c.in-Some.row) c.requires (search rules) in
    let within : is_within c.args.state.now c.in-Some.row ≡ true = search rules in
    rw full (rw within refl)

pub returns-in_ok-of-in-None-clause-rows : goal.returns-in_ok-of-in-None-clause-rows
returns-in_ok-of-in-None-clause-rows c =
    let full : slice_get c.args.rows.now.items c.args.place ≡ Some None =
    full_at c.args.rows.now.items c.args.place c.index.result.now None c.requires (search rules) in
    let own : c.in_ok-of-in-None.field-0 ≡ c.args.state.now = search rules in
    c.put_row.ensures ∙ ap (λ row. slice_set c.args.rows.now.items c.args.place (Some row)) own
    ∙ set_is c.args.state.now c.args.place c.args.rows.now.items None full

pub returns-in_ok-of-in-None-clause-change : goal.returns-in_ok-of-in-None-clause-change
returns-in_ok-of-in-None-clause-change c =
    let full : slice_get c.args.rows.now.items c.args.place ≡ Some None =
    full_at c.args.rows.now.items c.args.place c.index.result.now None c.requires (search rules) in
    rw full refl

pub returns-in_ok-joined-in-Some-clause-rows : goal.returns-in_ok-joined-in-Some-clause-rows
returns-in_ok-joined-in-Some-clause-rows c =
    let full : slice_get c.args.rows.now.items c.args.place ≡ Some (Some c.in-Some.row) =
    full_at c.args.rows.now.items c.args.place c.index.result.now (Some c.in-Some.row) c.requires (search rules) in
    let without : is_within c.args.state.now c.in-Some.row ≡ false = search rules in
    let made : c.in_ok-joined-in-Some.joined ≡ join_rows c.in-Some.row c.args.state.now = search rules in
    let own : c.in_ok-joined-in-Some.joined ≡ with_state c.args.state.now (Some c.in-Some.row) = rw without made in
    c.put_row-in-Some.ensures ∙ ap (λ row. slice_set c.args.rows.now.items c.args.place (Some row)) own
    ∙ set_is c.args.state.now c.args.place c.args.rows.now.items (Some c.in-Some.row) full

pub returns-in_ok-joined-in-Some-clause-change : goal.returns-in_ok-joined-in-Some-clause-change
returns-in_ok-joined-in-Some-clause-change c =
    let full : slice_get c.args.rows.now.items c.args.place ≡ Some (Some c.in-Some.row) =
    full_at c.args.rows.now.items c.args.place c.index.result.now (Some c.in-Some.row) c.requires (search rules) in
    let without : is_within c.args.state.now c.in-Some.row ≡ false = search rules in
    rw full (rw without refl)
