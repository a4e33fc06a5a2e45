use Rattle.std.proofs.Common.{◌/◌, arith, sym, subst}
use Rattle.gw_step.specs.Job.{Job}
use Rattle.gw_study.specs.Runs.{IsBeforeCount}
use Rattle.gw_study.proofs.Counting.{before_less}
use Rattle.gw_study.proofs.one_run.run_through.Goals as goal

pub count_down-requires-2 : goal.count_down-requires-2
count_down-requires-2 c =
    let s = c.count_down.new.sim.state in
    let rest = c.saturating_sub-rest.result in
    let less = before_less c.args.sim.now.job rest (rest / 2) s.steps (omega arith) c.in_ok-count_down.ensures.first.first in
    subst (λ (j : Job). IsBeforeCount j (rest / 2) s.steps) (sym c.count_down.ensures.job) less
