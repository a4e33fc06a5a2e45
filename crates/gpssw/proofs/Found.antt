-- What is so of an answer is so of it once want of memory is told as the program tells it.
use Rattle.std.proofs.Common.{◌≡◌, ◌+◌, ℕ, List, take, Option, Some, Result, Ok, Err, IfOk, IfSome, MatchResult}
use Rattle.std.specs.Prelude.{OnOk}
use Rattle.gw_object.specs.declared.fault.Fault.{Fault}
use Rattle.gw_object.specs.declared.limits.TheConstants.{MOST_BYTES}
use Rattle.gw_answers.specs.Refusal.{refusal_line}
use Rattle.gw_answers.specs.declared.answer.Answer.{Answer}
use Rattle.gw_answers.specs.declared.request.Request.{Request}
use Rattle.gw_answers.specs.Requests.{answers_to}
use Rattle.gw_answers.specs.Status.{refusal_status}
use Rattle.gw_batch.specs.Codes.{words_fault}
use Rattle.gw_batch.specs.Parts.{IsPool}
use Rattle.gw_console.specs.declared.fault.ProgramFault.{ProgramFault}
use Rattle.gw_console.specs.declared.fault.ProgramFault.TheVariants as faults
use Rattle.gw_console.specs.Output.{AnswersReader}
use Rattle.gpssw.proofs.Whole.{answers_reader}
use Rattle.gpssw.proofs.Batches.{words_answered}

-- the same answer is told, or want of memory
abbrev pub Tells : {E : Type 0} → Result Answer E → Result Answer ProgramFault → Type 0
Tells r told = MatchResult r (λ a. told ≡ Ok a) (λ _. told ≡ Err faults.Memory)

-- an answer to the bytes that were read
pub front_answered : {E : Type 0} (request : Request) (known : Option (List ℕ)) (input : List ℕ) → IfSome known (λ bytes. input ≡ take (MOST_BYTES + 1) bytes)
    → (r : Result Answer E) (told : Result Answer ProgramFault) → IfOk r (λ a. answers_to request input a.text.items a.status) → Tells r told
    → IfOk told (λ a. AnswersReader (answers_to request) known a.text.items a.status)
front_answered request known input front (Ok a) told answers same = rw same (answers_reader request known input a.text.items a.status front answers)
front_answered request known input front (Err e) told answers same = rw same tt

-- the refusal of words
pub words_told : {E : Type 0} (workers slice : ℕ) (old : Option (List ℕ)) (fault : Fault) → words_fault workers slice ≡ Some fault
    → (r : Result Answer E) (told : Result Answer ProgramFault) → IfOk r (λ a. (a.text.items ≡ refusal_line fault) × (a.status ≡ refusal_status)) → Tells r told
    → IfOk told (λ a. AnswersReader (IsPool workers slice) old a.text.items a.status)
words_told workers slice old fault out (Ok a) told answers same = rw same (words_answered workers slice old fault a.text.items a.status out answers.0 answers.1)
words_told workers slice old fault out (Err e) told answers same = rw same tt

-- what is so is so where there is a result
pub on_ok : {X E P : Type 0} (r : Result X E) → P → OnOk r P
on_ok (Ok x) h = h
on_ok (Err e) h = tt
