-- What a budget leaves of a state: its steps, and all of it below the budget.
use Rattle.std.proofs.Common.{◌≡◌, ◌∙◌, ℕ, ◌<◌, None, true, false, refl, sym, ap, arith}
use Rattle.std.specs.Prelude.{is_some}
use Rattle.gw_step.specs.State.{State}
use Rattle.gw_step.specs.Step.{within_budget}
use Rattle.gw_step.proofs.Steps.{by_budget}

module _ (budget : ℕ) (s : State) where
  pub below_budget : s.steps < budget → within_budget budget s ≡ s
  below_budget below = by_budget (λ (v : State). v ≡ s) budget s (λ _ same. absurd (none same)) (λ _. refl)
    where
      none : s.steps ≡ budget → ⊥
      none same = omega (arith, below, same)

  pub ended_stays : is_some s.ended ≡ true → within_budget budget s ≡ s
  ended_stays ended = by_budget (λ (v : State). v ≡ s) budget s (λ runs _. absurd (none runs)) (λ _. refl)
    where
      none : s.ended ≡ None → ⊥
      none runs = let never : false ≡ true = sym (ap is_some runs) ∙ ended in cc

  pub steps_stay : (within_budget budget s).steps ≡ s.steps
  steps_stay = by_budget (λ (v : State). v.steps ≡ s.steps) budget s (λ _ _. refl) (λ _. refl)

  -- what runs then has run before
  pub ran : (within_budget budget s).ended ≡ None → s.ended ≡ None
  ran = by_budget (λ (v : State). v.ended ≡ None → s.ended ≡ None) budget s (λ runs _ _. runs) (λ _ runs. runs)
