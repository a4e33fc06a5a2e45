-- What a status tells of the calls of a reader and a writer.
use Rattle.std.proofs.Common.{◌≡◌, ◌≢◌, ◌⊎◌, ◌+◌, ◌<◌, ℕ, List, [], Option, Bool, true, false, Result, Ok, Err, IfOk, MatchResult, inl, inr, refl}
use Rattle.std.proofs.Common.{sym, subst, arith, ◌∙◌}
use Rattle.std.specs.Prelude.{◌↔◌, ◌||◌, IsTrue, OnOk}
use Rattle.std.specs.Io.KnownBytes.{Keeps}
use Rattle.std.proofs.KnownBytes.{Consumes-nil}
use Rattle.gw_object.specs.declared.limits.TheConstants.{MOST_BYTES}
use Rattle.gw_streams.specs.Streams.{Source, Sink}
use Rattle.gw_answers.specs.declared.answer.Answer.{Answer}
use Rattle.gw_console.specs.declared.fault.ProgramFault.{ProgramFault}
use Rattle.gw_console.specs.declared.fault.ProgramFault.TheVariants.{Read, Write, Memory}
use Rattle.gw_answers.specs.Status.{end_status, refusal_status, wrong_words, failure_status, no_memory}
use Rattle.gw_console.specs.Output.{memory_line, Writes, Fails}
use Rattle.gw_console.specs.Calls.{LosesFront, LosesAtMost, TellsReads, wanted_status, EndsWith, Account, TellsCalls}

-- the status is 3 exactly where a call has failed
abbrev Failure : ℕ → Bool → Bool → Type 0
Failure result read written = (result ≡ failure_status) ↔ IsTrue (read || written)

-- where no read failed, it is so exactly where a write did
by_writer : (wanted result : ℕ) (written : Bool) → wanted ≢ failure_status → EndsWith wanted result written → Failure result false written
by_writer wanted result true other ends = (λ _. refl, λ _. ends)
by_writer wanted result false other ends = (λ h. absurd (other (sym ends ∙ h)), λ h. absurd cc)

unread : (wanted result : ℕ) (reads read written : Bool) → wanted ≢ failure_status → reads ≡ false → read ≡ reads
    → EndsWith wanted result written → Failure result read written
unread wanted result reads read written other none same ends =
    subst (λ b. Failure result b written) (sym (same ∙ none)) (by_writer wanted result written other ends)

by_reader : (result : ℕ) (read written : Bool) → read ≡ true → result ≡ failure_status → Failure result read written
by_reader result read written fails told = subst (λ b. Failure result b written) (sym fails) (λ _. refl, λ _. told)

-- a status of an answer is none of the others
ends_otherwise : (status : ℕ) → (status ≡ end_status) ⊎ (status ≡ refusal_status) → status ≢ failure_status
ends_otherwise status (inl h) same = omega (arith, h, same)
ends_otherwise status (inr h) same = omega (arith, h, same)

above : (status result : ℕ) → refusal_status < status → refusal_status < failure_status → (result ≡ status) ⊎ (result ≡ failure_status)
    → (result ≡ end_status) ⊎ (result ≡ refusal_status) → ⊥
above status result high higher (inl h) (inl k) = omega (arith, h, k)
above status result high higher (inl h) (inr k) = omega (arith, h, k)
above status result high higher (inr h) (inl k) = omega (arith, h, k)
above status result high higher (inr h) (inr k) = omega (arith, h, k)

-- the status of a text, or 3
either : (text : List ℕ) (status result : ℕ) (old new : Option (List ℕ)) → Writes text status result old new → (result ≡ status) ⊎ (result ≡ failure_status)
either text status result old new (inl h) = inl h.0
either text status result old new (inr h) = inr h.0

module _ (AllRead : Option (List ℕ) → Option (List ℕ) → Type 0) (most : ℕ) (result : ℕ) (from to : Source) (old new : Sink) where
  abbrev pub Writing : Result Answer ProgramFault → Type 0
  Writing r = MatchResult r (λ a. Writes a.text.items a.status result old.held new.held) (λ fault. Fails fault result old.held new.held)

  failure : from.failed ≡ false → (r : Result Answer ProgramFault) → IfOk r (λ a. (a.status ≡ end_status) ⊎ (a.status ≡ refusal_status))
      → TellsReads r from.failed to.failed → Writing r
      → EndsWith (wanted_status r) result new.failed → Failure result to.failed new.failed
  failure none (Ok a) status same writes ends = unread a.status result from.failed to.failed new.failed (ends_otherwise a.status status) none same ends
  failure none (Err Memory) status same writes ends = unread no_memory result from.failed to.failed new.failed (λ h. omega (arith, h)) none same ends
  failure none (Err Read) status fails writes ends = by_reader result to.failed new.failed fails writes.0
  failure none (Err Write) status fails writes ends = absurd fails

  silent : from.failed ≡ false → (r : Result Answer ProgramFault) → TellsReads r from.failed to.failed → Writing r → to.failed ≡ true → Keeps old.held new.held
  silent none (Ok a) same writes after = absurd cc
  silent none (Err Memory) same writes after = absurd cc
  silent none (Err Read) fails writes after = writes.1
  silent none (Err Write) fails writes after = absurd fails

  whole : (r : Result Answer ProgramFault) → OnOk r (AllRead from.left to.left) → Writing r → (result ≡ end_status)
      ⊎ (result ≡ refusal_status) → AllRead from.left to.left
  whole (Ok a) loses writes over = loses
  whole (Err Memory) loses writes over = absurd (above no_memory result (omega arith) (omega arith) (either memory_line no_memory result _ _ writes) over)
  whole (Err Read) loses writes over = absurd (above failure_status result (omega arith) (omega arith) (inl writes.0) over)
  whole (Err Write) loses writes over = absurd (above failure_status result (omega arith) (omega arith) (inl writes.0) over)

  -- what was read was answered, or why it wasn't
  pub account : from.failed ≡ false → (r : Result Answer ProgramFault)
      → IfOk r (λ a. (a.status ≡ end_status) ⊎ (a.status ≡ refusal_status)) → TellsReads r from.failed to.failed
      → OnOk r (AllRead from.left to.left) → LosesAtMost most from.left to.left → Writing r → EndsWith (wanted_status r) result new.failed
      → (result ≢ failure_status → new.waits ≡ false) → Account AllRead most result from to old new
  account none r status told loses limited writes ends flushed = record {
    failure = failure none r status told writes ends;
    flushed = flushed;
    silent = silent none r told writes;
    whole = whole r loses writes;
    limited = limited;
  }

module _ (result : ℕ) (from to : Source) (old new : Sink) where
  abbrev Written : Result Answer ProgramFault → Type 0
  Written r = MatchResult r (λ a. Writes a.text.items a.status result old.held new.held) (λ fault. Fails fault result old.held new.held)

  -- of a command on one input
  pub of_reading : from.failed ≡ false → (r : Result Answer ProgramFault)
      → IfOk r (λ a. (a.status ≡ end_status) ⊎ (a.status ≡ refusal_status)) → TellsReads r from.failed to.failed
      → OnOk r (LosesFront (MOST_BYTES + 1) from.left to.left) → LosesAtMost (MOST_BYTES + 1) from.left to.left → Written r
      → EndsWith (wanted_status r) result new.failed
      → (result ≢ failure_status → new.waits ≡ false) → TellsCalls result from to old new
  unfolding TellsCalls
  of_reading none r status told loses limited writes ends flushed =
      account (LosesFront (MOST_BYTES + 1)) (MOST_BYTES + 1) result from to old new none r status told loses limited writes ends flushed

-- nothing was read, and a text was written
pub of_writing : (text : List ℕ) (result : ℕ) (from : Source) (old new : Sink) → from.failed ≡ false
    → Writes text wrong_words result old.held new.held → EndsWith wrong_words result new.failed
    → (result ≢ failure_status → new.waits ≡ false) → TellsCalls result from from old new
unfolding TellsCalls
of_writing text result from old new none writes ends flushed = record {
  failure = unread wrong_words result from.failed from.failed new.failed (λ h. omega (arith, h)) none refl ends;
  flushed = flushed;
  silent = λ after. absurd cc;
  whole = λ over. absurd (above wrong_words result (omega arith) (omega arith) (either text wrong_words result _ _ writes) over);
  limited = ([], omega arith, Consumes-nil from.left);
}
