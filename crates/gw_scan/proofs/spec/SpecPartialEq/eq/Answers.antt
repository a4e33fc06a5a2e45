use Rattle.std.proofs.Common.{rules, ◌≡◌, sym, subst}
use Rattle.std.specs.Prelude.{Decides}
use Rattle.gw_equality.specs.Jobs.{same_job}
use Rattle.gw_equality.proofs.Jobs.{job_apart}
use Rattle.gw_scan.proofs.spec.SpecPartialEq.eq.Goals as goal

pub returns-then-eq-clause-decides : goal.returns-then-eq-clause-decides
returns-then-eq-clause-decides c =
    let compared : c.eq-then-eq.result ≡ same_job c.args.self.now c.args.other.now = search rules in
    subst (λ b. Decides b (c.args.self.now ≡ c.args.other.now)) (sym compared) (job_apart c.args.self.now c.args.other.now)

pub returns-else-eq-clause-decides : goal.returns-else-eq-clause-decides
returns-else-eq-clause-decides c =
    let compared : c.if-self-other-2.value ≡ same_job c.args.self.now c.args.other.now = search rules in
    subst (λ b. Decides b (c.args.self.now ≡ c.args.other.now)) (sym compared) (job_apart c.args.self.now c.args.other.now)
