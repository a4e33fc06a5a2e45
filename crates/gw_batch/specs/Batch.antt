-- The input of `pool`: a batch of objects, each behind its length.
use Rattle.std.specs.Prelude.{ℕ, zero, suc, ◌==◌, nat_lt, List, [], ◌∷◌, length, take, drop, Option, Some, None, Bool, true, false, if◌then◌else◌}
use Rattle.byteorder.specs.Endian.{big_number}
use Rattle.gw_object.specs.declared.fault.Fault.{Fault}
use Rattle.gw_object.specs.declared.limits.TheConstants.{MOST_BYTES}
use Rattle.gw_object.specs.Codes.{truncation, limit}
use Rattle.gw_answers.specs.Service.{service_full, nowhere}
use Rattle.gw_batch.specs.declared.entry.Entry.{Entry as StoredEntry}
use Rattle.gw_batch.specs.declared.entry.Entry.TheVariants as stored

-- ENTRIES

-- what stands in a batch: an object, or, as the last, what ended the reading
pub data Entry : Type 0 where
  Object : (bytes : List ℕ) → Entry
  Broken : (fault : Fault) → Entry

-- an object
abbrev pub is_object : Entry → Bool
is_object (Object bytes) = true
is_object (Broken fault) = false

-- the entry that a stored one is
abbrev pub entry_of : StoredEntry → Entry
entry_of (stored.Object bytes) = Object bytes.items
entry_of (stored.Broken fault) = Broken fault

-- THE FIRST ENTRY

-- an entry, and the bytes behind it
pub record Front : Type 0 where
  pub entry : Entry
  pub behind : List ℕ

abbrev pub front : Entry → List ℕ → Front
front e bytes = record { entry = e; behind = bytes }

-- of the bytes behind a length: as many as it says, or what is wrong with it or them
abbrev pub sized_front : ℕ → List ℕ → Front
sized_front n bytes =
    if nat_lt MOST_BYTES n then front (Broken (nowhere limit)) bytes
    else if nat_lt (length bytes) n then front (Broken (nowhere truncation)) []
    else front (Object (take n bytes)) (drop n bytes)

-- a length is a big-endian number of four bytes
abbrev pub behind_length : List ℕ → Front
behind_length bytes = if nat_lt (length bytes) 4 then front (Broken (nowhere truncation)) [] else sized_front (big_number 4 bytes) (drop 4 bytes)

-- the first entry, unless there are no bytes
abbrev pub first_entry : List ℕ → Option Front
first_entry bytes = if length bytes == 0 then None else Some (behind_length bytes)

-- ALL ENTRIES

-- at most so many objects are read
abbrev pub most_objects : ℕ
most_objects = 1024

-- one byte more tells that there is an object too many
abbrev pub surplus : List ℕ → Option Front
surplus bytes = if length bytes == 0 then None else Some (front (Broken (nowhere service_full)) (drop 1 bytes))

-- what is read next where so many objects may come yet
abbrev pub next_entry : ℕ → List ℕ → Option Front
next_entry zero bytes = surplus bytes
next_entry (suc left) bytes = first_entry bytes

-- an entry, and those behind it where it is an object
abbrev pub with_next : (List ℕ → List Entry) → Option Front → List Entry
with_next next None = []
with_next next (Some f) = f.entry ∷ (if is_object f.entry then next f.behind else [])

-- the entries, where so many objects may come yet
unfoldable pub entries : ℕ → List ℕ → List Entry
entries zero bytes = with_next (λ more. []) (next_entry zero bytes)
entries (suc left) bytes = with_next (entries left) (next_entry (suc left) bytes)

-- the bytes behind an entry, and behind those that follow where it is an object
abbrev pub past : (List ℕ → List ℕ) → Option Front → List ℕ
past next None = []
past next (Some f) = if is_object f.entry then next f.behind else f.behind

-- the bytes that are not read, where so many objects may come yet
unfoldable pub unread_bytes : ℕ → List ℕ → List ℕ
unread_bytes zero bytes = past (λ more. more) (next_entry zero bytes)
unread_bytes (suc left) bytes = past (unread_bytes left) (next_entry (suc left) bytes)
