-- What becomes of bytes that should be an object.
use Rattle.std.specs.Prelude.{◌≡◌, ℕ, List, Some, Ok, Err}
use Rattle.gw_object.specs.declared.parts.Parts.{Parts}
use Rattle.gw_object.specs.Reading.{first_fault}
use Rattle.gw_rules.specs.Accepted.{Accepted, fault_of}
use Rattle.gw_trials.specs.declared.outcome.Outcome.{Outcome}
use Rattle.gw_trials.specs.declared.outcome.Outcome.TheVariants.{Unreadable, Refused, Accepted as IsAccepted}

-- what the verifier says of an object; no object is unreadable
abbrev pub IsVerdict : Parts → Outcome → Type 0
IsVerdict parts (Unreadable fault) = ⊥
IsVerdict parts (Refused fault) = fault_of parts ≡ Some fault
IsVerdict parts (IsAccepted is_right) = Accepted parts

-- what becomes of these bytes: the first fault as they are read, or what the verifier says of the object that they spell
abbrev pub IsOutcome : List ℕ → Outcome → Type 0
IsOutcome bytes (Unreadable fault) = first_fault bytes ≡ Err fault
IsOutcome bytes (Refused fault) = (parts : Parts) × (first_fault bytes ≡ Ok parts) × IsVerdict parts (Refused fault)
IsOutcome bytes (IsAccepted is_right) = (parts : Parts) × (first_fault bytes ≡ Ok parts) × IsVerdict parts (IsAccepted is_right)
