-- An answer about what was read of a reader.
use Rattle.std.proofs.Common.{◌≡◌, ◌≤◌, ◌+◌, ℕ, List, length, take, Option, Some, None, IfSome, IfOk, Result, Ok, Err, MatchResult, refl, sym, subst}
use Rattle.std.proofs.lemmas.List.{take_all}
use Rattle.gw_object.specs.declared.limits.TheConstants.{MOST_BYTES}
use Rattle.gw_answers.specs.declared.answer.Answer.{Answer}
use Rattle.gw_answers.specs.Requests.{Answering}
use Rattle.gw_console.specs.declared.fault.ProgramFault.{ProgramFault}
use Rattle.gw_console.specs.declared.fault.ProgramFault.TheVariants as faults
use Rattle.gw_console.specs.Output.{AnswersReader}

module _ (Asked : Answering) where
  -- about the front of the bytes
  abbrev pub OfFront : Answering
  OfFront bytes = Asked (take (MOST_BYTES + 1) bytes)

  front : (known : Option (List ℕ)) (input text : List ℕ) (status : ℕ) → IfSome known (λ bytes. input ≡ take (MOST_BYTES + 1) bytes)
      → length input ≤ MOST_BYTES + 1
      → Asked input text status → AnswersReader OfFront known text status
  front None input text status is short h = (input, tt, subst (λ xs. Asked xs text status) (sym (take_all (MOST_BYTES + 1) input short)) h)
  front (Some bytes) input text status is short h = (bytes, refl, subst (λ xs. Asked xs text status) is h)

  pub front_answered : {E : Type 0} (known : Option (List ℕ)) (input : List ℕ)
      → IfSome known (λ bytes. input ≡ take (MOST_BYTES + 1) bytes) → length input ≤ MOST_BYTES + 1
      → (r : Result Answer E) (told : Result Answer ProgramFault) → IfOk r (λ a. Asked input a.text.items a.status)
      → MatchResult r (λ a. told ≡ Ok a) (λ _. told ≡ Err faults.Memory) → IfOk told (λ a. AnswersReader OfFront known a.text.items a.status)
  front_answered known input is short (Ok a) told answers same = rw same (front known input a.text.items a.status is short answers)
  front_answered known input is short (Err e) told answers same = rw same tt
