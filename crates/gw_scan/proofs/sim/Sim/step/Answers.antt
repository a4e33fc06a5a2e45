use Rattle.std.proofs.Common.{rules, ◌≡◌, ◌∙◌, Option, Some, None, refl, sym, subst}
use Rattle.gw_object.specs.declared.parts.Parts.{Parts}
use Rattle.gw_step.specs.Job.{Job, Progress, Step}
use Rattle.gw_step.specs.State.{State}
use Rattle.gw_step.specs.declared.ends.End.{End}
use Rattle.gw_step.proofs.Reached.{reached_more}
use Rattle.gw_machine.specs.View.{state_of}
use Rattle.gw_scan.specs.Answers.{Answers, AnswersFrom, StaysPaid, status_at}
use Rattle.gw_scan.specs.declared.sim.Status.{Status}
use Rattle.gw_scan.specs.Visiting.{IsReady}
use Rattle.gw_scan.proofs.Running.{is_ready}
use Rattle.gw_scan.proofs.Moments.{stays_paid}
use Rattle.gw_scan.proofs.sim.Sim.step.Goals as goal

runs : (c : goal.In_ok-step) → c.self.inside.machine.ended ≡ None
runs c = search rules

makes : (c : goal.In_ok-step) → Step c.self.inside.spec (state_of c.self.inside.machine) (state_of c.step.new.machine)
makes c = search rules

pub step-requires-clause-ready : goal.step-requires-clause-ready
step-requires-clause-ready c =
    let runs : c.self.inside.machine.ended ≡ None = search rules in
    subst (λ (p : Parts). IsReady p c.self.inside.machine) (sym c.verified_object-verified.ensures.value)
    (is_ready c.self.inside.spec c.self.inside.machine c.self.invariant.reached runs c.self.invariant.slots)

pub invariant_of-self-2 : goal.invariant_of-self-2
invariant_of-self-2 c = record {
  reached = reached_more c.self.inside.spec (state_of c.self.inside.machine) (state_of c.step.new.machine) c.self.invariant.reached (runs c) (makes c);
  slots = c.step.ensures.slots ∙ c.self.invariant.slots;
}

-- what stands after a step of a running job is answered
answers : (status : Status) (j : Job) (old new : State) → old.ended ≡ None → status ≡ status_at new.ended → Step j old new → Answers status j old new
answers status j old new running is made =
    subst (λ end. AnswersFrom end status j old new) (sym running) (subst (λ s. AnswersFrom None s j old new) (sym is) (by new.ended refl))
  where
    by : (end : Option End) → new.ended ≡ end → AnswersFrom None (status_at end) j old new
    by None stands = (made, stands)
    by (Some end) stands = (made, stands)

pub returns-clause-made : goal.returns-clause-made
returns-clause-made c =
    let m = c.self.inside.machine in
    let new = c.step.new.machine in
    let running : m.ended ≡ None = search rules in
    let made : Step c.self.inside.spec (state_of m) (state_of new) = search rules in
    let is : c.status.result ≡ status_at new.ended = search rules in
    subst (λ (old : Progress). Answers c.status.result old.job old.state (state_of new)) c.self.view_is
    (answers c.status.result c.self.inside.spec (state_of m) (state_of new) running is made)

pub returns-clause-moment : goal.returns-clause-moment
returns-clause-moment c =
    let running : c.self.inside.machine.ended ≡ None = search rules in
    let made : Step c.self.inside.spec (state_of c.self.inside.machine) (state_of c.step.new.machine) = search rules in
    subst (λ (old : Progress). StaysPaid old (record { job = c.self.inside.spec; state = state_of c.step.new.machine })) c.self.view_is
    (stays_paid c.self.inside.spec (state_of c.self.inside.machine) (state_of c.step.new.machine) c.self.invariant.reached running made)
