-- What a command writes, by what stands in the place of its answer.
use Rattle.std.proofs.Common.{◌≡◌, ◌≢◌, ◌⊎◌, ℕ, List, [], ◌∷◌, Option, Result, Ok, Err, IfOk, MatchResult, Contains, inl, inr, refl, sym, subst, arith}
use Rattle.gw_object.specs.declared.fault.Fault.{Fault}
use Rattle.gw_object.specs.declared.parts.Parts.{Parts}
use Rattle.gw_step.specs.Job.{Job}
use Rattle.gw_answers.specs.Refusal.{refusal_line}
use Rattle.gw_answers.specs.Answer.{Concludes, job_of, object_of, accepted_line}
use Rattle.gw_answers.specs.Assembly.{IsAssembly, IsWorkOf}
use Rattle.gw_answers.specs.declared.request.Request.{Request}
use Rattle.gw_answers.specs.declared.request.Request.TheVariants.{Run, Check, Asm}
use Rattle.gw_answers.specs.declared.answer.Answer.{Answer}
use Rattle.gw_console.specs.declared.fault.ProgramFault.{ProgramFault}
use Rattle.gw_console.specs.declared.fault.ProgramFault.TheVariants.{Read, Write, Memory}
use Rattle.gw_answers.specs.Status.{end_status, refusal_status, failure_status, no_memory}
use Rattle.gw_answers.specs.Requests.{Answering, answers_to}
use Rattle.gw_console.specs.Output.{AnswersReader, memory_line, Writes, Fails, Responds, WritesAnswer, Delivers}
use Rattle.std.specs.Io.KnownBytes.{Appends}
use Rattle.gw_console.proofs.Bytes.{kept}

-- a status of an answer
abbrev pub IsEnd : ℕ → Type 0
IsEnd status = (status ≡ end_status) ⊎ (status ≡ refusal_status)

-- those of a run, of a check and of an assembly
run_status : (r : Result Job Fault) (text : List ℕ) (status : ℕ)
    → MatchResult r (λ j. Concludes j text status) (λ fault. (status ≡ refusal_status) × (text ≡ refusal_line fault)) → IsEnd status
run_status (Ok j) text status h = inl h.0
run_status (Err fault) text status h = inr h.0

check_status : (r : Result Parts Fault) (text : List ℕ) (status : ℕ)
    → MatchResult r (λ p. (status ≡ end_status) × (text ≡ accepted_line p)) (λ fault. (status ≡ refusal_status) × (text ≡ refusal_line fault)) → IsEnd status
check_status (Ok p) text status h = inl h.0
check_status (Err fault) text status h = inr h.0

work_status : (statements : _) (text : List ℕ) (status : ℕ) → IsWorkOf statements text status → IsEnd status
work_status statements text status (inl h) = inl h.0
work_status statements text status (inr h) = inr h.0

pub assembly_status : (bytes text : List ℕ) (status : ℕ) → IsAssembly bytes text status → IsEnd status
assembly_status bytes text status (inl h) = work_status h.0 text status h.2
assembly_status bytes text status (inr h) = inr h.0

-- all answers of this kind end so
abbrev pub Ends : Answering → Type 0
Ends Answers = (bytes text : List ℕ) (status : ℕ) → Answers bytes text status → IsEnd status

-- those to a request
pub request_ends : (request : Request) → Ends (answers_to request)
request_ends (Run seed count) bytes text status h = run_status (job_of seed count bytes) text status h
request_ends Check bytes text status h = check_status (object_of bytes) text status h
request_ends Asm bytes text status h = assembly_status bytes text status h

-- the statuses of a command
abbrev pub Statuses : ℕ → Type 0
Statuses status = Contains (end_status ∷ refusal_status ∷ failure_status ∷ no_memory ∷ []) status

of_answer : (status : ℕ) → IsEnd status → Statuses status
of_answer status (inl h) = (0, omega arith, sym h)
of_answer status (inr h) = (1, omega arith, sym h)

not_memory : (status : ℕ) → IsEnd status → status ≡ no_memory → ⊥
not_memory status (inl h) is = omega (arith, h, is)
not_memory status (inr h) is = omega (arith, h, is)

of_failed : (status : ℕ) → status ≡ failure_status → Statuses status
of_failed status h = (2, omega arith, sym h)

of_memory : (status : ℕ) → status ≡ no_memory → Statuses status
of_memory status h = (3, omega arith, sym h)

module _ (Answers : Answering) (ends : Ends Answers) (known : Option (List ℕ)) where
  pub answer_statuses : (r : Result Answer ProgramFault) → IfOk r (λ a. AnswersReader Answers known a.text.items a.status)
      → IfOk r (λ a. (a.status ≡ end_status) ⊎ (a.status ≡ refusal_status))
  answer_statuses (Ok a) answer = ends answer.0 a.text.items a.status answer.2
  answer_statuses (Err fault) answer = tt

module _ (Answers : Answering) (ends : Ends Answers) (known : Option (List ℕ)) (status : ℕ) (old new : Option (List ℕ)) where
  output : (r : Result Answer ProgramFault) → IfOk r (λ a. AnswersReader Answers known a.text.items a.status)
      → MatchResult r (λ a. Writes a.text.items a.status status old new) (λ fault. Fails fault status old new) → Responds Answers known status old new
  output (Ok a) answer h = (a.text.items, a.status, inl answer, h)
  output (Err Memory) answer h = (memory_line, no_memory, inr (inl (refl, refl)), h)
  output (Err Read) answer h = ([], failure_status, inr (inr (refl, refl)), inl (h.0, kept old new h.1))
  output (Err Write) answer h = ([], failure_status, inr (inr (refl, refl)), inl (h.0, kept old new h.1))

  answered : (r : Result Answer ProgramFault) → IfOk r (λ a. AnswersReader Answers known a.text.items a.status)
      → MatchResult r (λ a. Writes a.text.items a.status status old new) (λ fault. Fails fault status old new)
      → status ≢ failure_status → status ≢ no_memory → WritesAnswer Answers known status old new
  answered (Ok a) answer (inl h) whole enough = (a.text.items, subst (λ s. AnswersReader Answers known a.text.items s) (sym h.0) answer, h.1)
  answered (Ok a) answer (inr h) whole enough = absurd (whole h.0)
  answered (Err Memory) answer (inl h) whole enough = absurd (enough h.0)
  answered (Err Memory) answer (inr h) whole enough = absurd (whole h.0)
  answered (Err Read) answer h whole enough = absurd (whole h.0)
  answered (Err Write) answer h whole enough = absurd (whole h.0)

  statuses : (r : Result Answer ProgramFault) → IfOk r (λ a. AnswersReader Answers known a.text.items a.status)
      → MatchResult r (λ a. Writes a.text.items a.status status old new) (λ fault. Fails fault status old new) → Statuses status
  statuses (Ok a) answer (inl h) = subst Statuses (sym h.0) (of_answer a.status (ends answer.0 a.text.items a.status answer.2))
  statuses (Ok a) answer (inr h) = of_failed status h.0
  statuses (Err Memory) answer (inl h) = of_memory status h.0
  statuses (Err Memory) answer (inr h) = of_failed status h.0
  statuses (Err Read) answer h = of_failed status h.0
  statuses (Err Write) answer h = of_failed status h.0

  memory : (r : Result Answer ProgramFault) → IfOk r (λ a. AnswersReader Answers known a.text.items a.status)
      → MatchResult r (λ a. Writes a.text.items a.status status old new) (λ fault. Fails fault status old new)
      → status ≡ no_memory → Appends old new memory_line
  memory (Ok a) answer (inl h) is = absurd (not_memory status (subst IsEnd (sym h.0) (ends answer.0 a.text.items a.status answer.2)) is)
  memory (Ok a) answer (inr h) is = absurd (omega (arith, h.0, is))
  memory (Err Memory) answer (inl h) is = h.1
  memory (Err Memory) answer (inr h) is = absurd (omega (arith, h.0, is))
  memory (Err Read) answer h is = absurd (omega (arith, h.0, is))
  memory (Err Write) answer h is = absurd (omega (arith, h.0, is))

  pub delivers : (r : Result Answer ProgramFault) → IfOk r (λ a. AnswersReader Answers known a.text.items a.status)
      → MatchResult r (λ a. Writes a.text.items a.status status old new) (λ fault. Fails fault status old new) → Delivers Answers known status old new
  delivers r answer written = record {
    answered = answered r answer written;
    memory = memory r answer written;
    status = statuses r answer written;
    output = output r answer written;
  }
