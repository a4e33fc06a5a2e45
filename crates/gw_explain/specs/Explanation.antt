-- What explaining a model text or an object comes to: a text and a status.
use Rattle.std.specs.Prelude.{◌≡◌, ◌⊎◌, ℕ, List, ◌++◌, MatchResult, MatchBool}
use Rattle.std.specs.Str.Lines.{lines as lines_of_text}
use Rattle.gw_object.specs.declared.fault.Fault.{Fault}
use Rattle.gw_object.specs.declared.parts.Parts.{Parts}
use Rattle.gw_rules.specs.Accepted.{Accepted}
use Rattle.gw_text.specs.declared.model.Model.{Model}
use Rattle.gw_text.specs.declared.model.Statement.{Statement}
use Rattle.gw_assemble.specs.Assembly.{Assembles, IsRefusal}
use Rattle.gw_answers.specs.Status.{end_status, refusal_status}
use Rattle.gw_answers.specs.Answer.{accepted_line, object_of}
use Rattle.gw_answers.specs.Assembly.{HasStatements, IsRefusedText}
use Rattle.gw_answers.specs.Refusal.{refusal_line}
use Rattle.gw_answers.specs.Inputs.{is_object}
use Rattle.gw_source_lines.specs.Sites.{Sites, sites_of, no_sites}
use Rattle.gw_explain.specs.Codes.{advice_lines}
use Rattle.gw_explain.specs.Shown.{shown_lines}
use Rattle.gw_explain.specs.Marks.{IsMarked}

-- a text begins with this
pub record Begins (front text : List ℕ) : Type 0 where
  pub rest : List ℕ
  pub whole : text ≡ front ++ rest

-- a text is this, and then what is wrong by a code, what is known, and how to mend it
pub record IsAdvised (front : List ℕ) (code : ℕ) (text : List ℕ) : Type 0 where
  pub known : List ℕ
  pub whole : text ≡ front ++ advice_lines known code

-- TEXTS

-- the places of a model's parts in its text
abbrev pub sites_in : Model → Sites
sites_in model = sites_of model.statements.items

-- a text is this, then the lines that a refusal is about, marks below, and the words on its code
pub record TellsFault (lines : List (List ℕ)) (sites : Sites) (fault : Fault) (front text : List ℕ) : Type 0 where
  pub marks : List ℕ
  pub marked : IsMarked lines fault.place marks
  pub advised : IsAdvised (front ++ shown_lines lines sites fault.place ++ marks) fault.code text

-- the explanation of a refusal: its line, and what is told of it
abbrev pub ExplainsRefusal : List ℕ → Sites → Fault → List ℕ → Type 0
ExplainsRefusal bytes sites fault text = TellsFault (lines_of_text bytes) sites fault (refusal_line fault) text

-- that of an accepted model: its line, and words
abbrev pub ExplainsModel : List Statement → List ℕ → Type 0
ExplainsModel ss text = (object : Parts) × Assembles ss object × Accepted object × Begins (accepted_line object) text

-- what the statements of a text come to
abbrev pub IsExplainedModel : List ℕ → List Statement → List ℕ → ℕ → Type 0
IsExplainedModel bytes ss text status =
    ((status ≡ end_status) × ExplainsModel ss text)
    ⊎ ((status ≡ refusal_status) × ((fault : Fault) × IsRefusal ss fault × ExplainsRefusal bytes (sites_of ss) fault text))

-- of a text: of a model that reading it may answer, or of the text's refusal
abbrev pub IsExplainedText : List ℕ → List ℕ → ℕ → Type 0
IsExplainedText bytes text status =
    ((ss : List Statement) × HasStatements bytes ss × IsExplainedModel bytes ss text status)
    ⊎ ((status ≡ refusal_status) × ((fault : Fault) × IsRefusedText bytes fault × ExplainsRefusal bytes no_sites fault text))

-- OBJECTS

-- of an object: the line that it has where it is checked, and words; of a refusal those on its code
abbrev pub IsExplainedObject : List ℕ → List ℕ → ℕ → Type 0
IsExplainedObject bytes text status =
    MatchResult (object_of bytes)
    (λ object. (status ≡ end_status) × Begins (accepted_line object) text)
    (λ fault. (status ≡ refusal_status) × IsAdvised (refusal_line fault) fault.code text)

-- the text and the status for these bytes
abbrev pub IsExplained : List ℕ → List ℕ → ℕ → Type 0
IsExplained bytes text status =
    MatchBool (is_object bytes) (IsExplainedObject bytes text status) (IsExplainedText bytes text status)
