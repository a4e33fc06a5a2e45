use Rattle.std.specs.List.{slice_get}
use Rattle.gw_service.specs.Rows.{cancelled_row}
use Rattle.gw_jobs.proofs.Kept.{changed-at, some_row}
use Rattle.gw_jobs.proofs.rows.cancel_row.Goals as goal

pub returns-clause-rows : goal.returns-clause-rows
returns-clause-rows c =
    let found = some_row (slice_get c.args.rows.now.items c.args.slot) c.requires in
    changed-at c.args.rows.now.items c.args.slot cancelled_row c.index_mut.result.now c.cancel.new.self found.0 found.1
    c.index_mut.ensures.value c.cancel.ensures
