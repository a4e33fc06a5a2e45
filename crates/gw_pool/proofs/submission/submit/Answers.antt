use Rattle.std.proofs.Common.{◌≡◌, ◌∙◌, ap, ℕ, None, Ok, Err, IfOk}
use Rattle.std.specs.Prelude.{Result}
use Rattle.std.proofs.lemmas.Result.{IfErr-weaker}
use Rattle.gw_step.specs.Job.{Job}
use Rattle.gw_service.specs.Journal.{Service}
use Rattle.gw_service.specs.Calls.{Pass, new_pass, submit_fault}
use Rattle.gw_pool.specs.Submits.{IsPassFor}
use Rattle.gw_pool.proofs.submission.submit.Goals as goal

-- a pass that a table makes of a job that it doesn't refuse
made : {E : Type 0} (r : Result Pass E) (u : ℕ) (j k : Job) (s : Service) → k ≡ j → IfOk r (λ p. p ≡ new_pass u k s)
    → IfOk r (λ _. submit_fault u s ≡ None) → IfOk r (IsPassFor u j)
made (Ok p) u j k s same pass free = record { before = s; free = free; pass = pass ∙ ap (λ one. new_pass u one s) same }
made (Err e) u j k s same pass free = tt

pub returns-in-Ok-clause-pass : goal.returns-in-Ok-clause-pass
returns-in-Ok-clause-pass g c = made c.add.result c.args.user c.args.spec _ c.deref_mut.result.now c.in-Ok.ensures.job c.add.ensures.pass c.add.ensures.free

pub returns-in-Ok-clause-back : goal.returns-in-Ok-clause-back
returns-in-Ok-clause-back g c = IfErr-weaker c.add.result _ _ (λ e same. same ∙ c.in-Ok.ensures.job) c.add.ensures.back

pub returns-in-Ok-clause-refused : goal.returns-in-Ok-clause-refused
returns-in-Ok-clause-refused g c = IfErr-weaker c.add.result _ _ (λ e refuses. record { before = c.deref_mut.result.now; refuses = refuses }) c.add.ensures.refused
