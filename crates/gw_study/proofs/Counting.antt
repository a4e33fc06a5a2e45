-- Counting down to a number that is left.
use Rattle.std.proofs.Common.{◌≡◌, ◌≤◌, ◌+◌, ℕ, ◌<ℤ◌, pos, arith, subst, inl, inr}
use Rattle.std.proofs.lemmas.Int.{ints}
use Rattle.std.proofs.lemmas.Bool.{cases_lt}
use Rattle.gw_step.specs.State.{State}
use Rattle.gw_step.specs.Job.{Job, Alone}
use Rattle.gw_study.specs.Runs.{IsBeforeCount}

-- after so many steps the lone run has one state
same : (j : Job) (n : ℕ) (s t : State) → Alone j n s → Alone j n t → s ≡ t
same j n s t h k = cc

-- before the first state there is none
pub before_none : (j : Job) (left n : ℕ) → n ≡ 0 → IsBeforeCount j left n
before_none j left n none k t most here = absurd (omega (arith, none, most))

-- one state more
pub before_more : (j : Job) (left n m : ℕ) (s : State) → IsBeforeCount j left n → Alone j n s → pos left <ℤ s.count → m ≡ n + 1 → IsBeforeCount j left m
before_more j left n m s before alone more next k t most here =
    elim (cases_lt k n) as (λ _. pos left <ℤ t.count) [
      | inl less ↦ before k t less here
      | inr not_less ↦
          let there : n ≡ k = omega (arith, not_less, most, next) in
          subst (λ (x : State). pos left <ℤ x.count) (same j k s t (subst (λ (i : ℕ). Alone j i s) there alone) here) more
    ]

-- where more than a number is left, more than a smaller one is
pub before_less : (j : Job) (left fewer n : ℕ) → fewer ≤ left → IsBeforeCount j left n → IsBeforeCount j fewer n
before_less j left fewer n less before k t most here = let more = before k t most here in omega (arith, ints, more, less)
