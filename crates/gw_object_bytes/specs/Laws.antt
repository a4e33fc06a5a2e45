-- The laws of the object format, and what is answered of bytes and of parts.
use Rattle.std.specs.Prelude.{◌≡◌, ◌≢◌, ◌⊎◌, ℕ, ◌<◌, ◌≤◌, List, [], ◌++◌, length, Result, Ok, Err}
use Rattle.std.specs.List.{All}
use Rattle.gw_fields.specs.Fields.{IsProperFront}
use Rattle.gw_object.specs.Codes.{truncation, trailing_bytes}
use Rattle.gw_object.specs.Limits.{most_bytes}
use Rattle.gw_object.specs.declared.fault.Fault.{Fault}
use Rattle.gw_object.specs.declared.fault.Place.TheVariants.{Nowhere}
use Rattle.gw_object.specs.declared.parts.Parts.{Parts}
use Rattle.gw_object.specs.Grammar.{HasSpelling, Refuses, Spells, spelling}
use Rattle.gw_object.specs.Reading.{fault_at, first_fault, out_of_memory, IsRefused}

-- this is answered, unless memory ran out
abbrev pub AnswersUnlessMemory : Result Parts Fault → Result Parts Fault → Type 0
AnswersUnlessMemory answer result = (result ≡ answer) ⊎ (result ≡ Err out_of_memory)

-- parts are handed back, with the lowest code that applies anywhere in them, at no place
abbrev pub HandsBack : Parts → Parts × Fault → Type 0
HandsBack parts (back, fault) = (back ≡ parts) × (fault.place ≡ Nowhere) × Refuses fault.code parts

-- bytes begin with at most one spelling, and it is that of one object
abbrev pub SpellingsAreApart : Type 0
SpellingsAreApart = (p q : Parts) (a b x y : List ℕ) → Spells a p → Spells b q → a ++ x ≡ b ++ y → (p ≡ q) × (a ≡ b) × (x ≡ y)

-- bytes are the spelling of what is read of them
abbrev pub ReadingIsSpelled : Type 0
ReadingIsSpelled = (bytes : List ℕ) (p : Parts) → All (λ byte. byte < 256) bytes → first_fault bytes ≡ Ok p → spelling p ≡ bytes

-- a spelling cut short is refused as truncated
abbrev pub FrontsAreTruncated : Type 0
FrontsAreTruncated = (p : Parts) (front : List ℕ) → HasSpelling p → IsProperFront front (spelling p) → IsRefused truncation front

-- a spelling with more behind it is refused as trailing at the first byte of that, where there aren't too many bytes in all
abbrev pub MoreIsTrailing : Type 0
MoreIsTrailing = (p : Parts) (more : List ℕ) → HasSpelling p → more ≢ [] → length (spelling p ++ more) ≤ most_bytes
    → first_fault (spelling p ++ more) ≡ Err (fault_at trailing_bytes (length (spelling p)))
