use Rattle.std.proofs.Common.{◌≡◌, ◌∙◌, subst, ap}
use Rattle.std.specs.Prelude.{IfOk, ℕ, List}
use Rattle.gw_step.specs.Job.{Job}
use Rattle.gw_scan.specs.Making.{job_from}
use Rattle.gw_study.specs.Seeds.{seeds_of_run}
use Rattle.gw_study.specs.Runs.{IsRunOf, run_job}
use Rattle.gw_study.proofs.one_run.numbered_run.Goals as goal

pub returns-in-Ok : goal.returns-in-Ok
returns-in-Ok c =
    let j = c.args.spec.now in
    let by_seeds = ap (λ (seeds : List ℕ). job_from j.parts seeds c.count.result j.budget) c.seeds_of-seeds.ensures.value in
    let by_count = ap (λ (count : ℕ). job_from j.parts (seeds_of_run c.args.number) count j.budget) c.count.ensures.value in
    let is : c.in-Ok.spec ≡ run_job j c.args.number = c.in-Ok.ensures.made ∙ by_seeds ∙ by_count in
    subst (λ (i : Job). IfOk c.run_of.result (IsRunOf i c.args.from)) is c.run_of.ensures
