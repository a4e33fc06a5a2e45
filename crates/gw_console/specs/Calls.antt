-- What the program tells of its calls of the reader and of the writer.
use Rattle.std.specs.Prelude.{◌≡◌, ◌≢◌, ◌≤◌, ◌+◌, ◌↔◌, ◌⊎◌, ℕ, List, length, take, Option, IfSome, Bool, true, false, ◌||◌, IsTrue, Result, Ok, Err}
use Rattle.std.specs.Prelude.{if◌then◌else◌}
use Rattle.std.specs.Io.KnownBytes.{Consumes, Keeps}
use Rattle.gw_object.specs.declared.limits.TheConstants.{MOST_BYTES}
use Rattle.gw_streams.specs.Streams.{Source, Sink}
use Rattle.gw_answers.specs.declared.answer.Answer.{Answer}
use Rattle.gw_console.specs.declared.fault.ProgramFault.{ProgramFault}
use Rattle.gw_console.specs.declared.fault.ProgramFault.TheVariants.{Read, Write, Memory}
use Rattle.gw_answers.specs.Status.{end_status, refusal_status, failure_status, no_memory}

-- known bytes lose their front of so many, or all where there are fewer
abbrev pub LosesFront : ℕ → Option (List ℕ) → Option (List ℕ) → Type 0
LosesFront most old new = IfSome old (λ bytes. Consumes old new (take most bytes))

-- known bytes lose a front of at most so many
abbrev pub LosesAtMost : ℕ → Option (List ℕ) → Option (List ℕ) → Type 0
LosesAtMost most old new = (bytes : List ℕ) × (length bytes ≤ most) × Consumes old new bytes

-- a read is said to have failed where one did, and memory to have run out where none did
abbrev pub TellsReads : {X : Type 0} → Result X ProgramFault → Bool → Bool → Type 0
TellsReads (Ok x) before after = after ≡ before
TellsReads (Err Read) before after = after ≡ true
TellsReads (Err Memory) before after = after ≡ before
TellsReads (Err Write) before after = ⊥

-- the status with which an answer ends where it can be written
abbrev pub wanted_status : Result Answer ProgramFault → ℕ
wanted_status (Ok answer) = answer.status
wanted_status (Err Memory) = no_memory
wanted_status (Err Read) = failure_status
wanted_status (Err Write) = failure_status

-- the status is 3 where a call has failed, and else the wanted one
abbrev pub EndsWith : ℕ → ℕ → Bool → Type 0
EndsWith wanted result has_failed = result ≡ (if has_failed then failure_status else wanted)

-- What a status tells of the calls of a reader and of a writer, from how the two were, when no call had failed, to how
-- they are: where all is read so, in at most so many bytes.
pub record Account (AllRead : Option (List ℕ) → Option (List ℕ) → Type 0) (most : ℕ) (status : ℕ) (from to : Source) (old new : Sink) : Type 0 where
  -- it is 3 exactly where a call failed
  pub failure : (status ≡ failure_status) ↔ IsTrue (to.failed || new.failed)
  -- on any other status nothing that was written waits for a flush
  pub flushed : status ≢ failure_status → new.waits ≡ false
  -- where a read failed nothing is written
  pub silent : to.failed ≡ true → Keeps old.held new.held
  -- on 0 and 1 all was read
  pub whole : (status ≡ end_status) ⊎ (status ≡ refusal_status) → AllRead from.left to.left
  -- and on no status more than so many bytes
  pub limited : LosesAtMost most from.left to.left

-- a command on one input: all bytes are read, but at most one more than an object may have
abbrev pub SingleAccount : ℕ → Source → Source → Sink → Sink → Type 0
SingleAccount status from to old new = Account (LosesFront (MOST_BYTES + 1)) (MOST_BYTES + 1) status from to old new

-- a status tells what an account says (closed: a proof that only passes it on has no need to look inside)
unfoldable pub TellsCalls : ℕ → Source → Source → Sink → Sink → Type 0
TellsCalls status from to old new = SingleAccount status from to old new
