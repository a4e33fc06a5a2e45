-- How long a run is still at a time.
use Rattle.std.proofs.Common.{◌≡◌, ◌≤◌, ◌<◌, ◌+◌, ℕ, ℤ, ◌≤ℤ◌, Some, arith, refl, subst, inl, inr}
use Rattle.std.proofs.lemmas.Int.{ints}
use Rattle.std.proofs.lemmas.Bool.{cases_lt}
use Rattle.gw_step.specs.State.{State}
use Rattle.gw_step.specs.Job.{Job, Alone, after, start_of}
use Rattle.gw_answers.specs.Running.{IsStillAt, AreStillAt}

-- after so many steps the lone run has one state
same : (j : Job) (n : ℕ) (s t : State) → Alone j n s → Alone j n t → s ≡ t
same j n s t h k = cc

-- one state more
pub still_more : (j : Job) (time : ℤ) (from n : ℕ) (s : State) → AreStillAt j time from n → Alone j n s → IsStillAt time s → AreStillAt j time from (n + 1)
still_more j time from n s before alone still k t least most here =
    elim (cases_lt k n) as (λ _. IsStillAt time t) [
      | inl less ↦ before k t least less here
      | inr not_less ↦
          let there : n ≡ k = omega (arith, not_less, most) in
          subst (IsStillAt time) (same j k s t (subst (λ (i : ℕ). Alone j i s) there alone) here) still
    ]

-- before the first of them there is none
pub still_none : (j : Job) (time : ℤ) (n : ℕ) → AreStillAt j time n n
still_none j time n k t least most here = absurd (omega (arith, least, most))

-- one run after another
pub still_on : (j : Job) (time : ℤ) (from n to : ℕ) → AreStillAt j time from n → AreStillAt j time n to → AreStillAt j time from to
still_on j time from n to first second k t least most here =
    elim (cases_lt k n) as (λ _. IsStillAt time t) [ inl less ↦ first k t least less here | inr not_less ↦ second k t not_less most here ]

-- what is still at a time is so at a later one
pub still_later : (j : Job) (time later : ℤ) (from to : ℕ) → time ≤ℤ later → AreStillAt j time from to → AreStillAt j later from to
still_later j time later from to order still k t least most here =
    let at : IsStillAt time t = still k t least most here in
    record { runs = at.runs; clock = omega (arith, ints, at.clock, order) }
