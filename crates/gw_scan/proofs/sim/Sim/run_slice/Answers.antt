use Rattle.std.proofs.Common.{◌≡◌, ◌+◌, subst}
use Rattle.std.specs.Prelude.{IfOk}
use Rattle.std.proofs.lemmas.Result.{IfOk-weaker}
use Rattle.gw_step.specs.Job.{Progress}
use Rattle.gw_scan.proofs.Moments.{slice_stays_paid}
use Rattle.gw_scan.specs.Answers.{StaysPaid}
use Rattle.gw_scan.specs.SimView.{progress_on}
use Rattle.gw_scan.specs.declared.slices.Slice.{Slice}
use Rattle.gw_scan.proofs.sim.Sim.run_slice.Goals as goal

pub returns-clause-made : goal.returns-clause-made
returns-clause-made c =
    subst (λ (old : Progress). IfOk c.run.result (λ (s : Slice). c.run.new.machine.steps ≡ old.state.steps + s.made)) c.self.view_is
    (IfOk-weaker c.run.result _ _ (λ slice s. s.made) c.run.ensures.made)

pub returns-clause-all : goal.returns-clause-all
returns-clause-all c = IfOk-weaker c.run.result _ _ (λ slice s. s.all) c.run.ensures.made

pub returns-clause-ended : goal.returns-clause-ended
returns-clause-ended c = IfOk-weaker c.run.result _ _ (λ slice s. s.ended) c.run.ensures.made

pub returns-clause-moment : goal.returns-clause-moment
returns-clause-moment c =
    let run = c.run.ensures.advances in
    let old : Progress = progress_on c.self.inside.spec c.self.inside.machine in
    let new : Progress = progress_on c.self.inside.spec c.run.new.machine in
    subst (λ (p : Progress). StaysPaid p new) c.self.view_is (slice_stays_paid old new c.self.invariant.reached run.reached run.job run.rise)
