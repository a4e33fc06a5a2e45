use Rattle.std.proofs.Common.{rules, ◌≡◌, ◌+◌, ◌-◌, ◌<◌, Option, Some, None, false, refl, sym, ap, ◌∙◌, subst, arith}
use Rattle.std.specs.Prelude.{is_some}
use Rattle.gw_machine.specs.Configuration.{Configuration}
use Rattle.gw_machine.specs.View.{state_of}
use Rattle.gw_object.specs.declared.parts.Parts.{Parts}
use Rattle.gw_step.proofs.LeftByEnds.{steps_are_counted}
use Rattle.gw_step.proofs.Reached.{reached_more}
use Rattle.gw_step.specs.Job.{Job, IsReached, Step}
use Rattle.gw_step.specs.State.{State}
use Rattle.gw_step.specs.Step.{step, within_budget}
use Rattle.gw_step.specs.declared.ends.End.{End}
use Rattle.gw_scan.proofs.Running.{is_ready}
use Rattle.gw_scan.proofs.Slicing.{below_budget, ended_stays, steps_stay}
use Rattle.gw_scan.specs.Makes.{StepsPastBudget}
use Rattle.gw_scan.specs.Visiting.{IsReady}
use Rattle.gw_scan.proofs.slices.run_until.Goals as goal

pub step_past_budget-requires-clause-ready : goal.step_past_budget-requires-clause-ready
step_past_budget-requires-clause-ready c =
    let m = c.loop-verified.machine in
    let j = c.args.spec.now in
    let i = c.loop-verified.invariant in
    let below : m.steps < j.budget = search rules in
    let reached = subst (λ (s : State). IsReached (record { job = j; state = s })) (below_budget j.budget (state_of m) below) i.0 in
    subst (λ (p : Parts). IsReady p m) (sym c.verified_object-verified.ensures.value) (is_ready j m reached i.4 (i.1 ∙ c.requires.slots))

-- a step is made of a running job
module _ (j : Job) (p : Parts) (m new : Configuration) (parts : p ≡ j.parts) (made : StepsPastBudget p (state_of m) (state_of new)) where
  leads : Step j (state_of m) (within_budget j.budget (state_of new))
  leads = subst (λ (q : Parts). step q j.budget (state_of m) ≡ Some (within_budget j.budget (state_of new))) parts (made j.budget)

  counted : new.steps ≡ m.steps + 1
  counted = sym (steps_stay j.budget (state_of new)) ∙ steps_are_counted j (state_of m) (within_budget j.budget (state_of new)) leads

  reached_then : IsReached (record { job = j; state = within_budget j.budget (state_of m) }) → m.steps < j.budget → m.ended ≡ None
      → IsReached (record { job = j; state = within_budget j.budget (state_of new) })
  reached_then reached below runs =
      let from = subst (λ (s : State). IsReached (record { job = j; state = s })) (below_budget j.budget (state_of m) below) reached in
      reached_more j (state_of m) (within_budget j.budget (state_of new)) from runs leads

none_stands : (end : Option End) → is_some end ≡ false → end ≡ None
none_stands None is = refl
none_stands (Some end) is = absurd cc

pub loop-verified-init : goal.loop-verified-init
loop-verified-init c =
    let m = c.args.machine.now in
    let j = c.args.spec.now in
    let runs = none_stands m.ended (search rules) in (
      subst (λ (s : State). IsReached (record { job = j; state = s }))
          (sym (below_budget j.budget (state_of m) (c.requires.reached.bounded.runs runs))) c.requires.reached,
      refl,
      omega arith,
      c.requires.later,
      runs,
    )

pub returns-in_err-step_past_budget-clause-reached : goal.returns-in_err-step_past_budget-clause-reached
returns-in_err-step_past_budget-clause-reached c =
    let m = c.loop-verified.machine in
    let j = c.args.spec.now in
    let below : m.steps < c.args.until = search rules in
    subst (λ (s : State). IsReached (record { job = j; state = s }))
    (below_budget j.budget (state_of m) (omega (arith, below, c.requires.allowed)) ∙ sym c.in_err-step_past_budget.ensures.err)
    c.loop-verified.invariant.0

pub loop-verified-smaller : goal.loop-verified-smaller
loop-verified-smaller c =
    let m = c.loop-verified.machine in
    let new = c.step_past_budget.new.machine in
    let more = counted c.args.spec.now _ m new c.verified_object-verified.ensures.value c.in_ok-step_past_budget.ensures.made in
    let below : m.steps < c.args.until = search rules in
    let smaller : c.args.until - new.steps < c.args.until - m.steps = omega (arith, more, below) in
    smaller

pub loop-verified-preserved : goal.loop-verified-preserved
loop-verified-preserved c =
    let m = c.loop-verified.machine in
    let new = c.step_past_budget.new.machine in
    let i = c.loop-verified.invariant in
    let made = c.in_ok-step_past_budget.ensures.made in
    let parts = c.verified_object-verified.ensures.value in
    let more = counted c.args.spec.now _ m new parts made in
    let below : m.steps < c.args.until = search rules in (
      reached_then c.args.spec.now _ m new parts made i.0 (omega (arith, below, c.requires.allowed)) i.4,
      c.step_past_budget.ensures.slots ∙ i.1,
      omega (arith, more, i.2),
      omega (arith, more, below),
      none_stands new.ended (sym c.in_ok-step_past_budget.ensures.ended ∙ c.if-branch.false),
    )

pub returns-then-branch-clause-reached : goal.returns-then-branch-clause-reached
returns-then-branch-clause-reached c =
    let m = c.loop-verified.machine in
    let new = c.step_past_budget.new.machine in
    let j = c.args.spec.now in
    let i = c.loop-verified.invariant in
    let below : m.steps < c.args.until = search rules in
    let reached = reached_then j _ m new c.verified_object-verified.ensures.value c.in_ok-step_past_budget.ensures.made i.0
    (omega (arith, below, c.requires.allowed)) i.4 in
    subst (λ (s : State). IsReached (record { job = j; state = s }))
    (ended_stays j.budget (state_of new) (sym c.in_ok-step_past_budget.ensures.ended ∙ c.if-branch.true)) reached

pub returns-then-branch-clause-rise : goal.returns-then-branch-clause-rise
returns-then-branch-clause-rise c =
    let more = counted c.args.spec.now _ c.loop-verified.machine c.step_past_budget.new.machine c.verified_object-verified.ensures.value
    c.in_ok-step_past_budget.ensures.made in
    omega (arith, more, c.loop-verified.invariant.2)

pub returns-then-branch-clause-most : goal.returns-then-branch-clause-most
returns-then-branch-clause-most c =
    let more = counted c.args.spec.now _ c.loop-verified.machine c.step_past_budget.new.machine c.verified_object-verified.ensures.value
    c.in_ok-step_past_budget.ensures.made in
    let below : c.loop-verified.machine.steps < c.args.until = search rules in
    omega (arith, more, below)

pub returns-clause-reached : goal.returns-clause-reached
returns-clause-reached c =
    let budget = ap (λ b. within_budget b (state_of c.loop-verified.machine)) c.budget.ensures.value in
    subst (λ (s : State). IsReached (record { job = c.args.spec.now; state = s })) (sym (c.end_at_budget.ensures.0 ∙ budget))
    c.loop-verified.invariant.0
