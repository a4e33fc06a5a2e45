use Rattle.std.proofs.Common.{◌≡◌, ◌<◌, ◌+◌, ◌^◌, ℕ, ap, sym, ◌∙◌, Some, None, arith}
use Rattle.gw_object.specs.declared.parts.Parts.{Parts}
use Rattle.gw_step.specs.Outcome.{Gives}
use Rattle.gw_step.specs.State.{State}
use Rattle.gw_step.specs.Step.{step, within_budget}
use Rattle.gw_machine.specs.View.{state_of}
use Rattle.gw_step.proofs.Counting.{is_counted}
use Rattle.gw_step.proofs.Steps.{step-gives, step-ends}
use Rattle.gw_scan.specs.Makes.{scan_outcome}
use Rattle.gw_scan.proofs.scan.step_past_budget.Goals as goal

-- a scan that gives a state makes a step, once it is counted
module _ (p : Parts) (old new : State) (made : scan_outcome p old ≡ Gives new) where
  few_steps : old.steps < 2 ^ 60 → new.steps < 2 ^ 60
  few_steps few = omega (arith, (is_counted p old new made).steps, few)

  makes_step : old.ended ≡ None → (budget : ℕ) (u : State) → u ≡ record new { steps = new.steps + 1 } → step p budget old ≡ Some (within_budget budget u)
  makes_step runs budget u is =
      step-gives p budget old runs new made
      ∙ ap Some (sym (ap (within_budget budget) is ∙ ap (λ k. within_budget budget (record new { steps = k + 1 })) (is_counted p old new made).steps))

pub add_step-requires : goal.add_step-requires
add_step-requires c =
    few_steps c.args.verified.now (state_of c.args.machine.now) (state_of c.scan.new.machine) (rw c.in-Ok-Step.field-0-is at c.in-Ok-Step.ensures.made).0
    c.requires.few

pub returns-in-Ok-Step-clause-made : goal.returns-in-Ok-Step-clause-made
returns-in-Ok-Step-clause-made c budget =
    makes_step c.args.verified.now (state_of c.args.machine.now) (state_of c.scan.new.machine) (rw c.in-Ok-Step.field-0-is at c.in-Ok-Step.ensures.made).0
    c.requires.runs budget _ c.add_step.ensures.0

pub add_step-requires-in-Ok-Last : goal.add_step-requires-in-Ok-Last
add_step-requires-in-Ok-Last c =
    few_steps c.args.verified.now (state_of c.args.machine.now) (state_of c.scan.new.machine) (rw c.in-Ok-Last.field-0-is at c.in-Ok-Last.ensures.made).0
    c.requires.few

pub returns-in-Ok-Last-clause-made : goal.returns-in-Ok-Last-clause-made
returns-in-Ok-Last-clause-made c budget =
    makes_step c.args.verified.now (state_of c.args.machine.now) (state_of c.scan.new.machine) (rw c.in-Ok-Last.field-0-is at c.in-Ok-Last.ensures.made).0
    c.requires.runs budget _ c.add_step-in-Ok-Last.ensures.0

pub returns-in-Ok-Ends-clause-made : goal.returns-in-Ok-Ends-clause-made
returns-in-Ok-Ends-clause-made c budget =
    let old = state_of c.args.machine.now in
    let made = rw c.in-Ok-Ends.field-0-is at c.in-Ok-Ends.ensures.made in
    step-ends c.args.verified.now budget old c.requires.runs c.in-Ok-Ends.end made.0
    ∙ ap Some (sym (ap (within_budget budget)
    (c.end_by.ensures.0 ∙ ap (λ (s : State). record s { steps = s.steps + 1; ended = Some c.in-Ok-Ends.end }) (c.undo.ensures.0 ∙ made.1))))
