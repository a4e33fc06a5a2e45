-- A run whose steps are as many as its budget is over.
use Rattle.std.proofs.Common.{◌≡◌, ◌<◌, ℤ, Option, Some, None, is_some, IsTrue, arith, refl, inl}
use Rattle.gw_step.specs.declared.ends.End.{End}
use Rattle.gw_step.specs.Job.{Progress, IsReached}
use Rattle.gw_answers.specs.Running.{IsOver}

not_running : (o : Option End) → (o ≡ None → ⊥) → IsTrue (is_some o)
not_running None h = absurd (h refl)
not_running (Some end) h = refl

pub over_by_budget : (time : ℤ) (p : Progress) → IsReached p → p.state.steps ≡ p.job.budget → IsOver time p.state
over_by_budget time p reached spent =
    inl (not_running p.state.ended (λ runs. let left : p.state.steps < p.job.budget = reached.bounded.runs runs in absurd (omega (arith, left, spent))))
