-- What assembling a model text comes to: a text and a status.
use Rattle.std.specs.Prelude.{◌≡◌, ◌≢◌, ◌≤◌, ◌⊎◌, ◌^◌, ◌<◌, ℕ, List, length}
use Rattle.gw_object.specs.declared.fault.Fault.{Fault}
use Rattle.gw_object.specs.declared.fault.Place.TheVariants.{Line}
use Rattle.gw_object.specs.declared.parts.Parts.{Parts}
use Rattle.gw_object.specs.Grammar.{spelling}
use Rattle.gw_text_tokens.specs.Codes.{length_fault}
use Rattle.std.specs.Str.Lines.{lines as lines_of_text}
use Rattle.gw_text.specs.Reading.{StandOn, IsRefusedAt}
use Rattle.gw_text.specs.declared.model.Statement.{Statement}
use Rattle.gw_assemble.specs.Assembly.{Assembles, IsRefusal}
use Rattle.gw_assemble.specs.Completion.{IsAccepted}
use Rattle.gw_answers.specs.Status.{end_status, refusal_status}
use Rattle.gw_answers.specs.Refusal.{refusal_line}

-- statements that a text of these bytes has
pub record HasStatements (bytes : List ℕ) (statements : List Statement) : Type 0 where
  pub within : length bytes ≤ 2 ^ 20
  pub lines : StandOn (lines_of_text bytes) statements

-- what is printed as a refusal: want of memory is none, and ends with a status of its own
abbrev pub IsPrinted : Fault → Type 0
IsPrinted fault = fault.code ≢ 8

-- a text that is too long is refused at its first line, and another at one of its lines
pub record IsRefusedText (bytes : List ℕ) (fault : Fault) : Type 0 where
  pub long : 2 ^ 20 < length bytes → fault ≡ record { code = length_fault; place = Line 1 }
  pub within : length bytes ≤ 2 ^ 20 → IsRefusedAt (length (lines_of_text bytes)) fault.code fault.place

-- the spelling of an accepted object that statements become
pub record IsSpelling (statements : List Statement) (text : List ℕ) : Type 0 where
  pub object : Parts
  pub assembled : Assembles statements object
  pub accepted : IsAccepted object
  pub spelled : text ≡ spelling object

-- what statements come to: the spelling of the object, or the line of the assembler's refusal
abbrev pub IsWorkOf : List Statement → List ℕ → ℕ → Type 0
IsWorkOf statements text status =
    ((status ≡ end_status) × IsSpelling statements text)
    ⊎ ((status ≡ refusal_status) × ((fault : Fault) × IsRefusal statements fault × IsPrinted fault × (text ≡ refusal_line fault)))

-- the text and the status for these bytes where they are assembled: those of a model that reading them may answer, or the line of the text's refusal
abbrev pub IsAssembly : List ℕ → List ℕ → ℕ → Type 0
IsAssembly bytes text status =
    ((statements : List Statement) × HasStatements bytes statements × IsWorkOf statements text status)
    ⊎ ((status ≡ refusal_status) × ((fault : Fault) × IsRefusedText bytes fault × IsPrinted fault × (text ≡ refusal_line fault)))
