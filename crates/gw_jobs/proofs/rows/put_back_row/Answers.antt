use Rattle.std.proofs.Common.{rules, ◌≡◌, ◌<◌, ◌∙◌, ap, sym, true, length, set, subst}
use Rattle.std.specs.List.{slice_get}
use Rattle.std.proofs.lemmas.Option.{get_or_from_slice_get, slice_get_within}
use Rattle.gw_service.specs.Rows.{Row, change_row, is_out, returned_row}
use Rattle.gw_jobs.specs.Answers.{IsOutWith}
use Rattle.gw_jobs.specs.Passes.{Task}
use Rattle.gw_jobs.proofs.Kept.{changed-at, out_row}
use Rattle.gw_jobs.proofs.rows.put_back_row.Goals as goal

pub index_mut-requires : goal.index_mut-requires
index_mut-requires c =
    let rows = c.args.rows.now.items in
    let t = c.task.inside in
    let there : IsOutWith t.sim.job (slice_get rows t.slot) → t.slot < length rows =
    λ out. let found = out_row t.sim.job (slice_get rows t.slot) out in slice_get_within rows t.slot found.0 found.1 in
    let within : t.slot < length rows =
    subst (λ (u : Task). IsOutWith u.sim.job (slice_get rows u.slot) → t.slot < length rows) c.task.view_is there c.requires in
    search rules

pub put_back-requires-clause-job : goal.put_back-requires-clause-job
put_back-requires-clause-job c =
    let rows = c.args.rows.now.items in
    let t = c.task.inside in
    let row = c.index_mut.result.now in
    let there : IsOutWith t.sim.job (slice_get rows t.slot) → t.sim.job ≡ row.job =
    λ out. let found = out_row t.sim.job (slice_get rows t.slot) out in
    found.2 ∙ ap (λ (r : Row). r.job) (sym (c.index_mut.ensures.value ∙ get_or_from_slice_get rows t.slot found.0 row found.1)) in
    subst (λ (u : Task). IsOutWith u.sim.job (slice_get rows u.slot) → t.sim.job ≡ row.job) c.task.view_is there c.requires

pub put_back-requires-clause-out : goal.put_back-requires-clause-out
put_back-requires-clause-out c =
    let rows = c.args.rows.now.items in
    let t = c.task.inside in
    let row = c.index_mut.result.now in
    let there : IsOutWith t.sim.job (slice_get rows t.slot) → is_out row.standing ≡ true =
    λ out. let found = out_row t.sim.job (slice_get rows t.slot) out in
    ap (λ (r : Row). is_out r.standing) (c.index_mut.ensures.value ∙ get_or_from_slice_get rows t.slot found.0 row found.1) ∙ found.3 in
    subst (λ (u : Task). IsOutWith u.sim.job (slice_get rows u.slot) → is_out row.standing ≡ true) c.task.view_is there c.requires

pub returns-clause-rows : goal.returns-clause-rows
returns-clause-rows c =
    let rows = c.args.rows.now.items in
    let t = c.task.inside in
    let put : IsOutWith t.sim.job (slice_get rows t.slot) → set rows t.slot c.put_back.new.self ≡ change_row t.slot (returned_row t.sim.state.steps) rows =
    λ out. let found = out_row t.sim.job (slice_get rows t.slot) out in
    changed-at rows t.slot (returned_row t.sim.state.steps) c.index_mut.result.now c.put_back.new.self found.0 found.1
    c.index_mut.ensures.value c.put_back.ensures in
    subst (λ (u : Task). IsOutWith u.sim.job (slice_get rows u.slot) → set rows t.slot c.put_back.new.self
    ≡ change_row u.slot (returned_row u.sim.state.steps) rows) c.task.view_is put c.requires
