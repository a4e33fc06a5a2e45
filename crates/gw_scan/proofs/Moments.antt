-- While the clock stands, steps are paid by what the state weighs.
use Rattle.std.proofs.Common.{◌≡◌, ◌≤◌, None, refl, subst, arith}
use Rattle.gw_step.specs.State.{State}
use Rattle.gw_step.specs.Job.{Job, Progress, Alone, IsReached, Step}
use Rattle.gw_step.proofs.LeftByEnds.{steps_are_counted}
use Rattle.gw_step.proofs.Reached.{reached_more}
use Rattle.gw_step.proofs.Moment.{entries_are_paid}
use Rattle.gw_scan.specs.Answers.{StaysPaid}

-- from one reached state to a later one
pub slice_stays_paid : (p q : Progress) → IsReached p → IsReached q → q.job ≡ p.job → p.state.steps ≤ q.state.steps → StaysPaid p q
slice_stays_paid p q first later job order clock = entries_are_paid p.job p.state q.state first.fits (record {
  before = p.state.steps;
  after = q.state.steps;
  order = order;
  first = first.alone;
  second = subst (λ (j : Job). Alone j q.state.steps q.state) job later.alone;
  clock = clock;
})

-- by one step
pub stays_paid : (j : Job) (s t : State) → IsReached (record { job = j; state = s }) → s.ended ≡ None → Step j s t
    → StaysPaid (record { job = j; state = s }) (record { job = j; state = t })
stays_paid j s t r runs next = slice_stays_paid _ _ r (reached_more j s t r runs next) refl (omega (arith, steps_are_counted j s t next))
