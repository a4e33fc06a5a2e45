use Rattle.std.proofs.Common.{subst}
use Rattle.gw_scan.specs.Answers.{StaysPaid}
use Rattle.gw_jobs.specs.Passes.{Task}
use Rattle.gw_jobs.proofs.task.Task.run_slice.Goals as goal

pub returns-clause-moment : goal.returns-clause-moment
returns-clause-moment c =
    subst (λ (t : Task). StaysPaid t.sim c.run_slice.new.self) c.self.view_is c.run_slice.ensures.moment
