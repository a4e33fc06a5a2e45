-- With which statuses the answers of the program end.
use Rattle.std.proofs.Common.{◌≡◌, ◌≢◌, ◌⊎◌, ℕ, List, Option, Some, None, Bool, true, false, MatchOption, inl, inr, arith, subst, sym, ◌∙◌}
use Rattle.gw_object.specs.declared.fault.Fault.{Fault}
use Rattle.gw_answers.specs.Status.{end_status, refusal_status, failure_status, no_memory}
use Rattle.gw_answers.specs.Refusal.{refusal_line}
use Rattle.gw_batch.specs.Codes.{words_fault}
use Rattle.gw_batch.specs.Batch.{Entry, entries, most_objects}
use Rattle.gw_batch.specs.Parts.{status_if, IsBatchTold, IsPool}
use Rattle.gw_answers.specs.Requests.{Answering}
use Rattle.gw_console.specs.Output.{memory_line, AnswersReader, IsOutput, Writes, Responds, WritesAnswer, Delivers}
use Rattle.std.specs.Io.KnownBytes.{Appends}
use Rattle.gw_console.proofs.Outputs.{IsEnd, Ends, Statuses}

-- and those to a batch
by_refused : (refused : Bool) (status : ℕ) → status ≡ status_if refused → IsEnd status
by_refused true status h = inr h
by_refused false status h = inl h

batch_status : (o : Option Fault) (es : List Entry) (text : List ℕ) (status : ℕ)
    → MatchOption o (IsBatchTold es text status) (λ fault. (status ≡ refusal_status) × (text ≡ refusal_line fault)) → IsEnd status
batch_status None es text status h = by_refused h.0 status h.2
batch_status (Some fault) es text status h = inr h.0

pub pool_ends : (workers slice : ℕ) → Ends (IsPool workers slice)
pool_ends workers slice bytes text status h = batch_status (words_fault workers slice) (entries most_objects bytes) text status h

-- whoever writes its output delivers it
module _ (Answers : Answering) (ends : Ends Answers) (known : Option (List ℕ)) (result : ℕ) (old new : Option (List ℕ)) where
  answered : (text : List ℕ) (status : ℕ) → IsOutput Answers known text status → Writes text status result old new
      → result ≢ failure_status → result ≢ no_memory → WritesAnswer Answers known result old new
  answered text status output (inr h) whole enough = absurd (whole h.0)
  answered text status (inl answer) (inl h) whole enough = (text, subst (λ s. AnswersReader Answers known text s) (sym h.0) answer, h.1)
  answered text status (inr (inl is)) (inl h) whole enough = absurd (enough (h.0 ∙ is.1))
  answered text status (inr (inr is)) (inl h) whole enough = absurd (whole (h.0 ∙ is.1))

  by_end : (text : List ℕ) (status : ℕ) → IsEnd status → result ≡ status → result ≡ no_memory → Appends old new memory_line
  by_end text status (inl h) same is = absurd (omega (arith, h, same, is))
  by_end text status (inr h) same is = absurd (omega (arith, h, same, is))

  without : (text : List ℕ) (status : ℕ) → IsOutput Answers known text status → Writes text status result old new → result ≡ no_memory
      → Appends old new memory_line
  without text status output (inr h) is = absurd (omega (arith, h.0, is))
  without text status (inl answer) (inl h) is = by_end text status (ends answer.0 text status answer.2) h.0 is
  without text status (inr (inl its)) (inl h) is = subst (Appends old new) its.0 h.1
  without text status (inr (inr its)) (inl h) is = absurd (omega (arith, h.0, its.1, is))

  of_end : (status : ℕ) → result ≡ status → IsEnd status → Statuses result
  of_end status same (inl h) = (0, omega arith, sym (same ∙ h))
  of_end status same (inr h) = (1, omega arith, sym (same ∙ h))

  statuses : (text : List ℕ) (status : ℕ) → IsOutput Answers known text status → Writes text status result old new → Statuses result
  statuses text status output (inr h) = (2, omega arith, sym h.0)
  statuses text status (inl answer) (inl h) = of_end status h.0 (ends answer.0 text status answer.2)
  statuses text status (inr (inl its)) (inl h) = (3, omega arith, sym (h.0 ∙ its.1))
  statuses text status (inr (inr its)) (inl h) = (2, omega arith, sym (h.0 ∙ its.1))

  pub responds_delivers : Responds Answers known result old new → Delivers Answers known result old new
  responds_delivers (text, status, output, writes) = record {
    answered = answered text status output writes;
    memory = without text status output writes;
    status = statuses text status output writes;
    output = (text, status, output, writes);
  }
