use Rattle.std.proofs.Common.{◌≡◌, ◌∷◌, ◌++◌, [], ap, subst, ◌∙◌}
use Rattle.gw_step.specs.Job.{Job}
use Rattle.gw_service.specs.Rows.{Row, new_row, standing_at}
use Rattle.gw_service.specs.Journal.{HasState}
use Rattle.gw_jobs.proofs.Kept.{is_new, start_state}
use Rattle.gw_jobs.proofs.submission.add_row.Goals as goal

pub returns-clause-rows : goal.returns-clause-rows
returns-clause-rows c =
    let row = c.new.result in
    let n = c.job.inside in
    let rows = c.args.rows.now.items in
    let spec : n.row_spec ≡ n.sim.job = c.job.invariant.row in
    let standing = subst (λ (j : Job). row.standing ≡ standing_at j n.sim.state.steps) spec c.new.ensures.standing in
    let made = is_new row c.args.user n.sim.job n.sim.state c.new.ensures.user (c.new.ensures.job ∙ spec) c.new.ensures.steps standing c.job.invariant.start in
    c.push_reserved.ensures.items ∙ ap (λ (r : Row). rows ++ r ∷ []) (made ∙ ap (new_row c.args.user) c.job.view_is)

pub returns-clause-starts : goal.returns-clause-starts
returns-clause-starts c =
    let n = c.job.inside in
    subst (λ (j : Job). HasState j 0) c.job.view_is (start_state n.sim.job n.sim.state c.job.invariant.start)
