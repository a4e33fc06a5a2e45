-- What is told without reading.
use Rattle.std.proofs.Common.{◌≡◌, ℕ, List, Option, Result, Ok, Err, IfOk, MatchResult, inl, inr, subst}
use Rattle.gw_answers.specs.declared.answer.Answer.{Answer}
use Rattle.gw_answers.specs.Status.{end_status}
use Rattle.gw_console.specs.declared.fault.ProgramFault.{ProgramFault}
use Rattle.gw_console.specs.declared.fault.ProgramFault.TheVariants as faults
use Rattle.gw_console.specs.Output.{Writes, Fails}
use Rattle.planner.specs.Answers.{Tells}

-- a text that was made, or want of memory, is told where it is delivered
pub told : {E : Type 0} (text : List ℕ) (r : Result Answer E) (answer : Result Answer ProgramFault) (result : ℕ) (old new : Option (List ℕ))
    → IfOk r (λ a. (a.text.items ≡ text) × (a.status ≡ end_status)) → MatchResult r (λ a. answer ≡ Ok a) (λ _. answer ≡ Err faults.Memory)
    → MatchResult answer (λ a. Writes a.text.items a.status result old new) (λ fault. Fails fault result old new) → Tells text result old new
told text (Ok a) answer result old new (is, ends) same written =
    inl (subst (λ x. Writes x end_status result old new) is (subst (λ s. Writes a.text.items s result old new) ends (rw same at written)))
told text (Err e) answer result old new h same written = inr (rw same at written)
