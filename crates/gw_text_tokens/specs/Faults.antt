-- The lowest refusal of a line, and what is kept of what was read.
use Rattle.std.specs.Prelude.{Option, Some, None, Result, Ok, Err, if◌then◌else◌, nat_le}
use Rattle.std.specs.declared.alloc.AllocError.{AllocError}
use Rattle.std.specs.Allocator.{alloc_error}
use Rattle.gw_text_tokens.specs.declared.faults.Refusal.{Refusal}
use Rattle.gw_text_tokens.specs.declared.faults.Stop.{Stop}
use Rattle.gw_text_tokens.specs.declared.faults.Stop.TheVariants.{Refused, Memory}
use Rattle.gw_text_tokens.specs.Codes.{code_of}

-- the refusal of the lower code
abbrev pub lower : Option Refusal → Refusal → Refusal
lower None refusal = refusal
lower (Some known) refusal = if nat_le (code_of known) (code_of refusal) then known else refusal

abbrev pub lower_of : Option Refusal → Option Refusal → Option Refusal
lower_of known None = known
lower_of known (Some refusal) = Some (lower known refusal)

-- what was read, or something else in its place where it was refused
abbrev pub or_otherwise : {A : Type 0} → Result A Stop → A → Result A AllocError
or_otherwise (Ok value) otherwise = Ok value
or_otherwise (Err (Refused refusal)) otherwise = Ok otherwise
or_otherwise (Err Memory) otherwise = Err alloc_error

-- the lowest refusal, with the one for which something wasn't read
abbrev pub first_refusal : {A : Type 0} → Option Refusal → Result A Stop → Option Refusal
first_refusal known (Ok value) = known
first_refusal known (Err (Refused refusal)) = Some (lower known refusal)
first_refusal known (Err Memory) = known

-- nothing is wrong, or the line is refused
abbrev pub check_of : Option Refusal → Result (Unit {0}) Stop
check_of None = Ok tt
check_of (Some refusal) = Err (Refused refusal)
