-- What the status of `pool` tells of the calls of a reader and a writer.
use Rattle.std.proofs.Common.{◌≡◌, ◌≢◌, ◌⊎◌, ℕ, Bool, false, Result, Ok, Err, IfOk, MatchResult, refl, sym, subst, ◌∙◌}
use Rattle.std.specs.Prelude.{◌↔◌, ◌||◌, IsTrue, OnOk}
use Rattle.gw_streams.specs.Streams.{Source, Sink}
use Rattle.gw_answers.specs.declared.answer.Answer.{Answer}
use Rattle.gw_answers.specs.Status.{end_status, refusal_status, failure_status}
use Rattle.gw_console.specs.declared.fault.ProgramFault.{ProgramFault}
use Rattle.gw_console.specs.Output.{Writes, Fails}
use Rattle.gw_console.specs.Calls.{LosesAtMost, TellsReads, wanted_status, EndsWith}
use Rattle.gw_console.proofs.Calls.{account}
use Rattle.gpssw.specs.Framing.{LosesBatch, most_bytes_of_batch}
use Rattle.gpssw.specs.Calls.{TellsPoolCalls}
use Rattle.gpssw.proofs.Found.{Tells}

-- an answer for which nothing is read tells of no read
pub none_read : {E : Type 0} (reads : Bool) (r : Result Answer E) (told : Result Answer ProgramFault) → Tells r told → TellsReads told reads reads
none_read reads (Ok a) told same = rw same refl
none_read reads (Err e) told same = rw same refl

module _ (result : ℕ) (from to : Source) (old new : Sink) where
  abbrev Written : Result Answer ProgramFault → Type 0
  Written r = MatchResult r (λ a. Writes a.text.items a.status result old.held new.held) (λ fault. Fails fault result old.held new.held)

  -- it says how the batch was read
  pub of_batch : (workers slice : ℕ) → from.failed ≡ false → (r : Result Answer ProgramFault)
      → IfOk r (λ a. (a.status ≡ end_status) ⊎ (a.status ≡ refusal_status)) → TellsReads r from.failed to.failed
      → OnOk r (LosesBatch workers slice from.left to.left) → LosesAtMost most_bytes_of_batch from.left to.left → Written r
      → EndsWith (wanted_status r) result new.failed
      → (result ≢ failure_status → new.waits ≡ false) → TellsPoolCalls workers slice result from to old new
  unfolding TellsPoolCalls
  of_batch workers slice none r status told loses limited writes ends flushed =
      account (LosesBatch workers slice) most_bytes_of_batch result from to old new none r status told loses limited writes ends flushed

  -- where it was read, and what is told of it was written
  pub of_told : (workers slice : ℕ) → from.failed ≡ false → to.failed ≡ from.failed → LosesBatch workers slice from.left to.left
      → LosesAtMost most_bytes_of_batch from.left to.left
      → (result ≡ failure_status) ↔ IsTrue new.failed → (result ≢ failure_status → new.waits ≡ false) → TellsPoolCalls workers slice result from to old new
  unfolding TellsPoolCalls
  of_told workers slice none same loses limited told flushed = record {
    failure = subst (λ b. (result ≡ failure_status) ↔ IsTrue (b || new.failed)) (sym (same ∙ none)) told;
    flushed = flushed;
    silent = λ after. absurd cc;
    whole = λ over. loses;
    limited = limited;
  }
