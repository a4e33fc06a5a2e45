-- What answers a batch answers the reader that gave it.
use Rattle.std.proofs.Common.{◌≡◌, ◌≢◌, ℕ, List, [], ◌++◌, map, Option, Some, None, IfSome, MatchOption, inl, inr, refl, sym, ap, subst, ◌∙◌}
use Rattle.std.specs.Io.KnownBytes.{Consumes, Keeps, Appends}
use Rattle.std.proofs.KnownBytes.{Keeps-refl, Appends-nil, Appends-kept, Appends-trans}
use Rattle.gw_object.specs.declared.fault.Fault.{Fault}
use Rattle.gw_answers.specs.Refusal.{refusal_line}
use Rattle.gw_answers.specs.Status.{refusal_status, no_memory}
use Rattle.gw_batch.specs.Codes.{words_fault}
use Rattle.gw_batch.specs.declared.entry.Entry.{Entry as StoredEntry}
use Rattle.gw_batch.specs.Batch.{Entry, entry_of, entries, unread_bytes, most_objects}
use Rattle.gw_batch.specs.Parts.{IsBatchTold, IsPool}
use Rattle.gw_console.specs.declared.fault.ProgramFault.TheVariants.{Memory}
use Rattle.gw_console.specs.Output.{memory_line, Fails, AnswersReader, Responds}
use Rattle.gpssw.specs.Output.{RespondsToBatch}
use Rattle.gpssw.specs.Framing.{left_of, GivesBatch, LosesEntries, LosesBatch}

-- what was read, and what is left, is what there was
all_of : (old new : Option (List ℕ)) (read : List ℕ) → Consumes old new read → IfSome old (λ bytes. bytes ≡ read ++ left_of new)
all_of None new read taken = tt
all_of (Some bytes) None read taken = absurd taken
all_of (Some bytes) (Some left) read taken = taken

pub batch_answered : (workers slice : ℕ) (old new : Option (List ℕ)) (es : List StoredEntry) (text : List ℕ) (status : ℕ)
    → words_fault workers slice ≡ None → GivesBatch es old new
    → IsBatchTold (map entry_of es) text status → AnswersReader (IsPool workers slice) old text status
batch_answered workers slice old new es text status in_range given told =
    let bytes = given.read ++ left_of new in
    let answer : IsBatchTold (entries most_objects bytes) text status = subst (λ all. IsBatchTold all text status) (sym given.entries) told in
    (bytes, all_of old new given.read given.taken, rw in_range answer)

-- nothing, and then a text
behind_nothing : (old mid new : Option (List ℕ)) (text : List ℕ) → Keeps old mid → Appends mid new text → Appends old new text
behind_nothing old mid new text kept written = Appends-trans old mid new [] text (Appends-kept old old mid [] (Appends-nil old) kept) written

-- the line on want of memory responds to a batch of which nothing was written
pub memory_responds : (es : List Entry) (result : ℕ) (old mid new : Option (List ℕ)) → Keeps old mid → Fails Memory result mid new
    → RespondsToBatch es result old new
memory_responds es result old mid new kept (inl h) = (memory_line, no_memory, inr (refl, refl), inl (h.0, behind_nothing old mid new memory_line kept h.1))
memory_responds es result old mid new kept (inr h) =
    (memory_line, no_memory, inr (refl, refl), inr (h.0, (h.1.0, h.1.1, behind_nothing old mid new _ kept h.1.2)))

-- what was written of a batch that was read is the response of `pool`
pub batch_responds : (workers slice result : ℕ) (old new held written : Option (List ℕ)) (es : List StoredEntry)
    → words_fault workers slice ≡ None → GivesBatch es old new
    → RespondsToBatch (map entry_of es) result held written → Responds (IsPool workers slice) old result held written
batch_responds workers slice result old new held written es in_range given (text, status, inl told, writes) =
    (text, status, inl (batch_answered workers slice old new es text status in_range given told), writes)
batch_responds workers slice result old new held written es in_range given (text, status, inr is, writes) = (text, status, inr (inl is), writes)

-- known bytes lose those of the batch
lost : (old new : Option (List ℕ)) (read : List ℕ) → Consumes old new read → unread_bytes most_objects (read ++ left_of new) ≡ left_of new
    → LosesEntries old new
lost None new read taken rest = tt
lost (Some bytes) None read taken rest = absurd taken
lost (Some bytes) (Some left) read taken rest = ap (λ (bs : List ℕ). Some bs) (sym (ap (unread_bytes most_objects) taken ∙ rest))

pub batch_lost : (workers slice : ℕ) (old new : Option (List ℕ)) (es : List StoredEntry) → words_fault workers slice ≡ None
    → GivesBatch es old new → LosesBatch workers slice old new
batch_lost workers slice old new es in_range given = rw in_range (lost old new given.read given.taken given.rest)

-- the refusal of the words answers every reader, and leaves it as it was
same_left : (old : Option (List ℕ)) → IfSome old (λ bytes. bytes ≡ left_of old)
same_left None = tt
same_left (Some bytes) = refl

pub words_answered : (workers slice : ℕ) (old : Option (List ℕ)) (fault : Fault) (text : List ℕ) (status : ℕ) → words_fault workers slice ≡ Some fault
    → text ≡ refusal_line fault → status ≡ refusal_status → AnswersReader (IsPool workers slice) old text status
words_answered workers slice old fault text status out line ends = (left_of old, same_left old, rw out (ends, line))

pub words_lost : (workers slice : ℕ) (old : Option (List ℕ)) (fault : Fault) → words_fault workers slice ≡ Some fault → LosesBatch workers slice old old
words_lost workers slice old fault out = rw out (Keeps-refl old)
