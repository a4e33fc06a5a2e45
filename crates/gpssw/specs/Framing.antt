-- Reading a batch from a reader.
use Rattle.std.specs.Prelude.{◌≡◌, ℕ, ◌+◌, ◌*◌, List, [], ◌∷◌, ◌++◌, length, map, Option, Some, None, IfSome, MatchOption, Bool, if◌then◌else◌}
use Rattle.std.specs.Io.KnownBytes.{Consumes, Keeps}
use Rattle.gw_object.specs.declared.limits.TheConstants.{MOST_BYTES}
use Rattle.gw_batch.specs.Codes.{words_fault}
use Rattle.gw_answers.specs.Service.{nowhere, service_full}
use Rattle.gw_batch.specs.declared.entry.Entry.{Entry as StoredEntry}
use Rattle.gw_batch.specs.declared.entry.Entry.TheVariants as stored
use Rattle.gw_batch.specs.Batch.{Entry, Object, Broken, Front, front, entry_of, first_entry, sized_front, surplus, entries, unread_bytes, most_objects}

-- the bytes that a reader has left; none where it doesn't tell them
abbrev pub left_of : Option (List ℕ) → List ℕ
left_of None = []
left_of (Some bytes) = bytes

-- what was read is the first entry of the bytes: an object whatever stands behind it, and what ends the reading before the bytes that are left
abbrev pub IsFirst : (List ℕ → Option Front) → List ℕ → List ℕ → Option StoredEntry → Type 0
IsFirst first read left None = first (read ++ left) ≡ None
IsFirst first read left (Some (stored.Object bytes)) = (more : List ℕ) → first (read ++ more) ≡ Some (front (Object bytes.items) more)
IsFirst first read left (Some (stored.Broken fault)) = first (read ++ left) ≡ Some (front (Broken fault) left)

-- a reader gave the bytes of an entry
abbrev pub GivesEntry : (List ℕ → Option Front) → Option StoredEntry → Option (List ℕ) → Option (List ℕ) → Type 0
GivesEntry first entry old new = (read : List ℕ) × Consumes old new read × IsFirst first read (left_of new) entry

-- those of an object of so many bytes
abbrev pub GivesSized : ℕ → Option (List ℕ) → Option (List ℕ) → StoredEntry → Type 0
GivesSized size old new entry = GivesEntry (λ bytes. Some (sized_front size bytes)) (Some entry) old new

-- the entry that an object too many is, if there is one
abbrev pub surplus_entry : Bool → Option StoredEntry
surplus_entry is_there = if is_there then Some (stored.Broken (nowhere service_full)) else None

-- a reader gave its byte, if there is one
abbrev pub GivesSurplus : Option (List ℕ) → Option (List ℕ) → Bool → Type 0
GivesSurplus old new is_there = GivesEntry surplus (surplus_entry is_there) old new

-- a reader gave the bytes of a batch: its entries are those of the bytes, and those that are left are not read
pub record GivesBatch (es : List StoredEntry) (old new : Option (List ℕ)) : Type 0 where
  pub read : List ℕ
  pub taken : Consumes old new read
  pub entries : entries most_objects (read ++ left_of new) ≡ map entry_of es
  pub rest : unread_bytes most_objects (read ++ left_of new) ≡ left_of new

-- at most so many bytes are read of a batch
abbrev pub most_bytes_of_batch : ℕ
most_bytes_of_batch = most_objects * (MOST_BYTES + 4) + 1

-- known bytes lose those of a batch
abbrev pub LosesEntries : Option (List ℕ) → Option (List ℕ) → Type 0
LosesEntries old new = IfSome old (λ bytes. new ≡ Some (unread_bytes most_objects bytes))

-- and none where the words are out of range
abbrev pub LosesBatch : ℕ → ℕ → Option (List ℕ) → Option (List ℕ) → Type 0
LosesBatch workers slice old new = MatchOption (words_fault workers slice) (LosesEntries old new) (λ fault. Keeps old new)
