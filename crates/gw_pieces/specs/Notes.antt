-- What a pass over a text adds to the ledger.
use Rattle.std.specs.Prelude.{◌≡◌, ◌⊎◌, ℕ, List, Option, Some, None}
use Rattle.std.specs.List.{All, Contains}
use Rattle.gw_names.specs.declared.ledger.Ledger.{Ledger}
use Rattle.gw_names.specs.declared.ledger.Noted.{Noted}
use Rattle.gw_names.specs.Codes.{name_fault}
use Rattle.gw_names.specs.Ledger.{with_notes, noted_at}

-- 80 Name at a line, where nothing is noted before
abbrev pub or_missing : Option Noted → ℕ → Option Noted
or_missing None line = Some (noted_at line name_fault)
or_missing (Some least) line = Some least

-- the same, where there is no piece
abbrev pub unless_piece : {A : Type 0} → Option A → Option Noted → ℕ → Option Noted
unless_piece None least line = or_missing least line
unless_piece (Some piece) least line = least

-- a refusal is that of a line, and there is this reason for it
abbrev pub IsFor : Type 0 → ℕ → ℕ → Noted → Type 0
IsFor Reason line code note = Reason × (note ≡ noted_at line code)

-- there is never such a refusal
abbrev pub Never : Noted → Type 0
Never note = ⊥

-- a refusal has a reason: a limit, or, where nothing was noted before, that something is missing
abbrev pub HasReason : (Noted → Type 0) → (Noted → Type 0) → Option Noted → Noted → Type 0
HasReason Limit Missing before note = Limit note ⊎ ((before ≡ None) × Missing note)

-- refusals are added: each with a reason, and among them each that is due
pub record NotesMore (Limit Due Missing : Noted → Type 0) (before after : Option Noted) : Type 0 where
  pub more : List Noted
  pub first : after ≡ with_notes before more
  pub reasons : All (HasReason Limit Missing before) more
  pub all : (note : Noted) → Due note → Contains more note

-- refusals of what may be missing are added
abbrev pub NotesMissing : (Noted → Type 0) → Option Noted → Option Noted → Type 0
NotesMissing Missing before after = NotesMore Never Never Missing before after

-- a ledger takes note of a line where there is no piece
abbrev pub NotesUnless : {A : Type 0} → Option A → ℕ → Ledger → Ledger → Type 0
NotesUnless piece line old new = new.least ≡ unless_piece piece old.least line
