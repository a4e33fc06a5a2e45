-- The first refusal of those that are noted.
use Rattle.std.specs.Prelude.{◌≡◌, ℕ, List, [], ◌∷◌, Option, Some, None, Bool, ◌&&◌, ◌||◌, if◌then◌else◌, nat_lt, ◌==◌, option_map}
use Rattle.gw_object.specs.declared.fault.Fault.{Fault}
use Rattle.gw_object.specs.declared.fault.Place.TheVariants.{Line}
use Rattle.gw_names.specs.declared.ledger.Ledger.{Ledger}
use Rattle.gw_names.specs.declared.ledger.Noted.{Noted}

-- whether one refusal goes before another: it is of a line above, or of the same line with a lower code
abbrev pub is_before : Noted → Noted → Bool
is_before one other = nat_lt one.line other.line || (one.line == other.line && nat_lt one.code other.code)

-- the first of those so far and of one more
abbrev pub with_note : Option Noted → Noted → Option Noted
with_note None one = Some one
with_note (Some least) one = if is_before one least then Some one else Some least

-- and of several more
abbrev pub with_notes : Option Noted → List Noted → Option Noted
with_notes least [] = least
with_notes least (one ∷ more) = with_notes (with_note least one) more

-- a ledger takes note of these refusals
abbrev pub Notes : Ledger → Ledger → List Noted → Type 0
Notes old new more = new.least ≡ with_notes old.least more

-- a refusal with this code on this line
abbrev pub noted_at : ℕ → ℕ → Noted
noted_at line code = record { line = line; code = code }

-- the same, if there is a code
abbrev pub noted_if : ℕ → Option ℕ → List Noted
noted_if line None = []
noted_if line (Some code) = noted_at line code ∷ []

-- as the answer of the assembler
abbrev pub as_fault : Noted → Fault
as_fault one = record { code = one.code; place = Line one.line }

-- the first refusal, if there is one
abbrev pub first_fault : Option Noted → Option Fault
first_fault least = option_map as_fault least
