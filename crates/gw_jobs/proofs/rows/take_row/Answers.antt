use Rattle.std.proofs.Common.{◌∙◌, ap}
use Rattle.std.proofs.lemmas.Option.{get_or_from_slice_get}
use Rattle.std.specs.List.{slice_get}
use Rattle.gw_service.specs.Rows.{Row, taken_row}
use Rattle.gw_jobs.proofs.Kept.{changed-at, ready_row, has_state}
use Rattle.gw_jobs.proofs.rows.take_row.Goals as goal

pub returns-clause-rows : goal.returns-clause-rows
returns-clause-rows c =
    let found = ready_row (slice_get c.args.rows.now.items c.args.slot) c.requires in
    changed-at c.args.rows.now.items c.args.slot taken_row c.index_mut.result.now c.take.new.self found.row found.here
    c.index_mut.ensures.value c.take.ensures.row

pub returns-clause-sim : goal.returns-clause-sim
returns-clause-sim c =
    let found = ready_row (slice_get c.args.rows.now.items c.args.slot) c.requires in
    let same = c.index_mut.ensures.value ∙ get_or_from_slice_get c.args.rows.now.items c.args.slot found.row c.index_mut.result.now found.here in
    has_state c.take.result (slice_get c.args.rows.now.items c.args.slot) found.row found.here
    (c.take.ensures.job ∙ ap (λ (r : Row). r.job) same) (c.take.ensures.steps ∙ ap (λ (r : Row). r.steps) same)
