-- What the names of PROCEDUREs and EQUs stand for, where the procedures have these origins, in order.
use Rattle.std.specs.Prelude.{◌≡◌, ℕ, ◌+◌, ℤ, Result, min, length, List, [], ◌∷◌, ◌++◌, Option, Some, None, slice_get, option_and_then, string_bytes}
use Rattle.std.specs.Prelude.{true, if◌then◌else◌}
use Rattle.std.specs.Option.{option_or}
use Rattle.gw_text_plus.specs.declared.model.Procedure.{Procedure as TextProcedure}
use Rattle.gw_text.specs.declared.model.Model.{Model}
use Rattle.gw_text.specs.declared.model.Body.{Body}
use Rattle.gw_text.specs.declared.model.Body.TheVariants as bodies
use Rattle.gw_text.specs.declared.model.Statement.{Statement}
use Rattle.gw_compile.specs.declared.numbering.Callee.{Callee}
use Rattle.gw_compile.specs.declared.numbering.Equ.{Equ}
use Rattle.gw_compile.specs.declared.numbering.Equ.TheVariants.{Number, Procedure}
use Rattle.gw_names.specs.declared.known.Known.{Known}
use Rattle.gw_names.specs.Known.{found_in}
use Rattle.gw_names.specs.Places.{Sets, is_equ, label_of, name_entry, last_of, equ_number_of}
use Rattle.gw_pieces.specs.declared.naming.Meanings.{Meanings}
use Rattle.gw_pieces.specs.declared.origins.Origin.{Origin}

-- a number of a procedure, as 16 bits hold it
abbrev pub number_at : ℕ → ℕ
number_at place = min place 65535

-- MEANINGS

-- what these give names, one after the other, of which the first has this place
abbrev pub entries_from : {A X : Type 0} → (A → ℕ → List (List ℕ × X)) → ℕ → List A → List (List ℕ × X)
entries_from entry i [] = []
entries_from entry i (x ∷ xs) = entry x i ++ entries_from entry (i + 1) xs

-- a PROCEDURE is called by the number of its procedure, with as many arguments as it has
abbrev pub own_callee : TextProcedure → ℕ → List (List ℕ × Callee)
own_callee pr place = (string_bytes pr.name, record { number = number_at place; arguments = min (length pr.arguments.items) 255 }) ∷ []

-- and so is that of a statement
abbrev pub callee_of_body : Body → ℕ → List (List ℕ × Callee)
callee_of_body (bodies.Procedure pr) place = own_callee pr place
callee_of_body bodies.Nothing place = []
callee_of_body (bodies.Points points) place = []

-- the same, by its statement
abbrev pub callee_at : Statement → ℕ → List (List ℕ × Callee)
callee_at s place = callee_of_body s.body place

-- if there is one
abbrev pub callee_of_statement : Option Statement → ℕ → List (List ℕ × Callee)
callee_of_statement None place = []
callee_of_statement (Some s) place = callee_of_body s.body place

abbrev pub callee_of_origin : List Statement → Origin → ℕ → List (List ℕ × Callee)
callee_of_origin ss o place = callee_of_statement (slice_get ss o.statement) place

-- what the name of a PROCEDURE stands for
abbrev pub callee_of : List Statement → List Origin → List ℕ → Option Callee
callee_of ss order name = last_of (entries_from (callee_of_origin ss) 0 order) name

-- an EQU stands for its procedure
abbrev pub own_equ : Statement → ℕ → List (List ℕ × Equ)
own_equ s place = if is_equ s.word then name_entry (label_of s) (Procedure (number_at place)) else []

-- and so does a statement without more lines
abbrev pub equ_of_body : Body → Statement → ℕ → List (List ℕ × Equ)
equ_of_body bodies.Nothing s place = own_equ s place
equ_of_body (bodies.Procedure pr) s place = []
equ_of_body (bodies.Points points) s place = []

-- the same, by the body of the statement
abbrev pub equ_by_statement : Statement → ℕ → List (List ℕ × Equ)
equ_by_statement s place = equ_of_body s.body s place

abbrev pub equ_of_statement : Option Statement → ℕ → List (List ℕ × Equ)
equ_of_statement None place = []
equ_of_statement (Some s) place = equ_by_statement s place

abbrev pub equ_of_origin : List Statement → Origin → ℕ → List (List ℕ × Equ)
equ_of_origin ss o place = equ_of_statement (slice_get ss o.statement) place

-- or for the number that it is
abbrev pub equ_by_number : Option (List ℕ) → Option ℤ → List (List ℕ × Equ)
equ_by_number name None = []
equ_by_number name (Some z) = name_entry name (Number z)

abbrev pub equ_of_number : (List ℕ → Option ℤ) → Statement → ℕ → List (List ℕ × Equ)
equ_of_number numbers s i = if is_equ s.word then equ_by_number (label_of s) (option_and_then numbers (label_of s)) else []

-- what a name stands for, where these names are numbers
abbrev pub equ_by : (List ℕ → Option ℤ) → List Statement → List Origin → List ℕ → Option Equ
equ_by numbers ss order name = option_or (last_of (entries_from (equ_of_number numbers) 0 ss) name) (last_of (entries_from (equ_of_origin ss) 0 order) name)

-- what the name of an EQU stands for
abbrev pub equ_meant : List Statement → List Origin → List ℕ → Option Equ
equ_meant ss order name = equ_by (equ_number_of ss) ss order name

-- WHAT IS PUT INTO MAPS

-- where there is memory, the names of PROCEDUREs stand for this from now on
abbrev pub SetsCallees : {A E : Type 0} → Result A E → Meanings → Meanings → List (List ℕ × Callee) → Type 0
SetsCallees result old new more = Sets result old.procedures new.procedures more

-- and those of EQUs for this
abbrev pub SetsEqus : {A E : Type 0} → Result A E → Meanings → Meanings → List (List ℕ × Equ) → Type 0
SetsEqus result old new more = Sets result old.equs new.equs more

-- what an origin of a text gives the name of a PROCEDURE, by its place
abbrev pub callee_in : Model → Origin → ℕ → List (List ℕ × Callee)
callee_in text o place = callee_of_origin text.statements.items o place

-- and what it gives that of an EQU
abbrev pub equ_in : Model → Origin → ℕ → List (List ℕ × Equ)
equ_in text o place = equ_of_origin text.statements.items o place

-- what the origins of a text give the names of PROCEDUREs, by their places
abbrev pub callees_in : Model → List Origin → List (List ℕ × Callee)
callees_in text order = entries_from (callee_in text) 0 order

-- and those of EQUs
abbrev pub equs_in : Model → List Origin → List (List ℕ × Equ)
equs_in text order = entries_from (equ_in text) 0 order

-- the number that a name is known to be
abbrev pub known_number : Known → List ℕ → List (List ℕ × Equ)
known_number known name = equ_by_number (Some name) (found_in known.equ_numbers name)

-- the EQU that a statement is, if it is known to be a number
abbrev pub known_equ : Known → Statement → ℕ → List (List ℕ × Equ)
known_equ known s place = equ_of_number (found_in known.equ_numbers) s place

-- and those that several are
abbrev pub known_equs : Known → List Statement → List (List ℕ × Equ)
known_equs known ss = entries_from (equ_of_number (found_in known.equ_numbers)) 0 ss

-- the names of PROCEDUREs stand for what they do in a text, where the procedures have these origins, in order
abbrev pub MeansCallees : Model → List Origin → Meanings → Type 0
MeansCallees text order m = (name : List ℕ) → found_in m.procedures name ≡ callee_of text.statements.items order name

-- and so do those of EQUs, where these are known to be numbers
abbrev pub MeansEqus : Known → Model → List Origin → Meanings → Type 0
MeansEqus known text order m = (name : List ℕ) → found_in m.equs name ≡ equ_by (found_in known.equ_numbers) text.statements.items order name

-- WHAT THEY ARE

-- the origin at a place of an order, and its statement
pub record StandsAt (ss : List Statement) (order : List Origin) (place : ℕ) (s : Statement) : Type 0 where
  pub origin : Origin
  pub there : slice_get order place ≡ Some origin
  pub statement : slice_get ss origin.statement ≡ Some s

-- a name is that of a PROCEDURE, with the number of its procedure and as many arguments as it has
pub record IsCallee (ss : List Statement) (order : List Origin) (name : List ℕ) (c : Callee) : Type 0 where
  pub place : ℕ
  pub statement : Statement
  pub procedure : TextProcedure
  pub stands : StandsAt ss order place statement
  pub body : statement.body ≡ bodies.Procedure procedure
  pub called : string_bytes procedure.name ≡ name
  pub number : c.number ≡ number_at place
  pub arguments : c.arguments ≡ min (length procedure.arguments.items) 255

-- a name is that of an EQU that becomes the procedure of this number
pub record IsEquOf (ss : List Statement) (order : List Origin) (name : List ℕ) (q : ℕ) : Type 0 where
  pub place : ℕ
  pub statement : Statement
  pub stands : StandsAt ss order place statement
  pub body : statement.body ≡ bodies.Nothing
  pub word : is_equ statement.word ≡ true
  pub label : label_of statement ≡ Some name
  pub number : q ≡ number_at place

-- a name stands for the number that its EQU is, or its EQU becomes a procedure
abbrev pub IsMeant : List Statement → List Origin → List ℕ → Equ → Type 0
IsMeant ss order name (Number z) = equ_number_of ss name ≡ Some z
IsMeant ss order name (Procedure q) = IsEquOf ss order name q
