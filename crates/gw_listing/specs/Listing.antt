-- What a listing answers.
use Rattle.std.specs.Prelude.{◌≡◌, ◌⊎◌, ℕ, List, MatchResult, MatchBool}
use Rattle.gw_object.specs.declared.fault.Fault.{Fault}
use Rattle.gw_object.specs.declared.parts.Parts.{Parts}
use Rattle.gw_rules.specs.Accepted.{Accepted}
use Rattle.gw_text.specs.declared.model.Statement.{Statement}
use Rattle.gw_assemble.specs.Assembly.{Assembles, IsRefusal}
use Rattle.gw_answers.specs.Status.{end_status, refusal_status}
use Rattle.gw_answers.specs.Answer.{object_of}
use Rattle.gw_answers.specs.Assembly.{HasStatements, IsRefusedText}
use Rattle.gw_answers.specs.Refusal.{refusal_line}
use Rattle.gw_answers.specs.Inputs.{is_object}
use Rattle.gw_source_lines.specs.Sites.{Sites, sites_of, no_sites}
use Rattle.gw_listing.specs.Lines.{AreLines}
use Rattle.gw_listing.specs.Shape.{openings}

-- a text lists an object whose parts stand there in a model text
abbrev pub IsListingOf : Parts → Sites → List ℕ → Type 0
IsListingOf parts sites text = AreLines (openings parts sites) text

-- a refusal is told
abbrev pub TellsRefusal : Fault → List ℕ → ℕ → Type 0
TellsRefusal fault text status = (status ≡ refusal_status) × (text ≡ refusal_line fault)

-- of bytes that spell an accepted object the listing, with the status of an end; of others their refusal
abbrev pub IsListedObject : List ℕ → List ℕ → ℕ → Type 0
IsListedObject object text status =
    MatchResult (object_of object) (λ parts. (status ≡ end_status) × IsListingOf parts no_sites text) (λ fault. TellsRefusal fault text status)

-- of statements the listing of the accepted object that they become, with its lines; or the assembler's refusal
abbrev pub IsListedModel : List Statement → List ℕ → ℕ → Type 0
IsListedModel ss text status =
    ((status ≡ end_status) × ((parts : Parts) × Assembles ss parts × Accepted parts × IsListingOf parts (sites_of ss) text))
    ⊎ ((fault : Fault) × IsRefusal ss fault × TellsRefusal fault text status)

-- of a text: of a model that reading it may answer; or the text's refusal
abbrev pub IsListedText : List ℕ → List ℕ → ℕ → Type 0
IsListedText bytes text status =
    ((ss : List Statement) × HasStatements bytes ss × IsListedModel ss text status)
    ⊎ ((fault : Fault) × IsRefusedText bytes fault × TellsRefusal fault text status)

-- an object is listed as it is, and of a text its object is
abbrev pub IsListed : List ℕ → List ℕ → ℕ → Type 0
IsListed input text status = MatchBool (is_object input) (IsListedObject input text status) (IsListedText input text status)
