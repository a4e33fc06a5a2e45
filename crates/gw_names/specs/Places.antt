-- Which statement of a text a name stands for.
use Rattle.std.specs.Prelude.{◌≡◌, ℕ, ℤ, ◌+◌, List, [], ◌∷◌, ◌++◌, Option, Some, None, Result, OnOk, Bool, true, false, if◌then◌else◌, nat_lt}
use Rattle.std.specs.Prelude.{option_map, option_and_then, string_bytes}
use Rattle.std.specs.Option.{option_or}
use Rattle.std.specs.Str.{bytes_eq}
use Rattle.std.specs.declared.string.String.{String}
use Rattle.indexmap.specs.IndexMap.{IndexMap}
use Rattle.gw_rules.specs.declared.entities.EntityKind.{EntityKind}
use Rattle.gw_text_tokens.specs.declared.words.Word.{Word}
use Rattle.gw_text_tokens.specs.declared.words.Word.TheVariants as words
use Rattle.gw_text_tokens.specs.Words.{is_block}
use Rattle.gw_text_expressions.specs.declared.model.Expression.TheVariants as expressions
use Rattle.gw_text_statements.specs.declared.model.Operand.{Operand}
use Rattle.gw_text_statements.specs.declared.model.Operand.TheVariants as operands
use Rattle.gw_text.specs.declared.model.Body.{Body}
use Rattle.gw_text.specs.declared.model.Body.TheVariants as bodies
use Rattle.gw_text.specs.declared.model.Statement.{Statement}
use Rattle.gw_name_uses.specs.Statements.{declared_kind}
use Rattle.gw_names.specs.declared.entities.ByKind.{ByKind}
use Rattle.gw_names.specs.declared.places.Places.{Places}
use Rattle.gw_names.specs.Known.{Finds, Key, key, is_same, found_in, entity_of}

-- LISTS OF WHAT IS DECLARED

-- what was declared last of that which passes the test
abbrev pub last_by : {K X : Type 0} → (K → Bool) → List (K × X) → Option X
last_by test [] = None
last_by test (e ∷ es) = option_or (last_by test es) (if test e.0 then Some e.1 else None)

-- and under this name
abbrev pub last_of : {X : Type 0} → List (List ℕ × X) → List ℕ → Option X
last_of declared name = last_by (bytes_eq name) declared

-- what a name stands for after this was declared, by what it stood for before
abbrev pub Adds : {X : Type 0} → List (List ℕ × X) → (List ℕ → Option X) → (List ℕ → Option X) → Type 0
Adds more before after = (name : List ℕ) → after name ≡ option_or (last_of more name) (before name)

-- the same of entities
abbrev pub AddsEntities : {X : Type 0} → List (Key × X) → (EntityKind → List ℕ → Option X) → (EntityKind → List ℕ → Option X) → Type 0
AddsEntities more before after = (kind : EntityKind) (name : List ℕ) → after kind name ≡ option_or (last_by (is_same (key kind name)) more) (before kind name)

-- where there is memory, names of a map stand for this from now on
abbrev pub Sets : {A E X Y S : Type 0} → Result A E → IndexMap (String Y) X S → IndexMap (String Y) X S → List (List ℕ × X) → Type 0
Sets result old new more = OnOk result (Adds more (found_in old) (found_in new))

-- the same of entities by their keys
abbrev pub SetsKeys : {A E X : Type 0} → Result A E → ByKind X → ByKind X → List (Key × X) → Type 0
SetsKeys result old new more = OnOk result (AddsEntities more (entity_of old) (entity_of new))

-- what is kept of the entity of a kind and a name
abbrev pub entry : {X : Type 0} → EntityKind → List ℕ → X → List (Key × X)
entry kind name x = (key kind name, x) ∷ []

-- what has a name, where it has one
abbrev pub name_entry : {K X : Type 0} → Option K → X → List (K × X)
name_entry None x = []
name_entry (Some k) x = (k, x) ∷ []

-- the places of statements, by what each declares; the first of these has this place
abbrev pub places_from : {K : Type 0} → (Statement → Option K) → ℕ → List Statement → List (K × ℕ)
places_from declared i [] = []
places_from declared i (s ∷ ss) = name_entry (declared s) i ++ places_from declared (i + 1) ss

-- LABELS

-- the label of a statement
abbrev pub label_of : Statement → Option (List ℕ)
label_of s = option_map string_bytes s.label

-- the entity that a statement declares
abbrev pub declared_entity : Statement → Option Key
declared_entity s = option_and_then (λ kind. option_map (key kind) (label_of s)) (declared_kind s.word)

-- with the place of the statement
abbrev pub declared_at : ℕ → Statement → List (Key × ℕ)
declared_at i s = name_entry (declared_entity s) i

-- the entities that statements declare, of which the first has this place
abbrev pub declared_from : ℕ → List Statement → List (Key × ℕ)
declared_from i ss = places_from declared_entity i ss

-- whether a word is EQU
unfoldable pub is_equ : Word → Bool
is_equ words.Equ = true
is_equ word = false

-- the EQU that a statement is
abbrev pub declared_equ : Statement → Option (List ℕ)
declared_equ s = if is_equ s.word then label_of s else None

-- the PROCEDURE that a statement has
abbrev pub procedure_in : Body → Option (List ℕ)
procedure_in (bodies.Procedure procedure) = Some (string_bytes procedure.name)
procedure_in bodies.Nothing = None
procedure_in (bodies.Points points) = None

abbrev pub declared_procedure : Statement → Option (List ℕ)
declared_procedure s = procedure_in s.body

-- the place of the last statement that declares an entity
abbrev pub declaration_of : List Statement → Key → Option ℕ
declaration_of statements entity = last_by (is_same entity) (declared_from 0 statements)

-- of the last EQU of a name
abbrev pub equ_of : List Statement → List ℕ → Option ℕ
equ_of statements name = last_of (places_from declared_equ 0 statements) name

-- and of the last PROCEDURE
abbrev pub procedure_of : List Statement → List ℕ → Option ℕ
procedure_of statements name = last_of (places_from declared_procedure 0 statements) name

-- BLOCKS

-- the number of the next block; the last one that 16 bits hold stays
unfoldable pub next_block : ℕ → ℕ
next_block n = if nat_lt n 65535 then n + 1 else 65535

-- how many blocks there are up to a statement, where there were so many before it
abbrev pub blocks_up_to : ℕ → Statement → ℕ
blocks_up_to n s = if is_block s.word then next_block n else n

-- the number that a statement gives to its label
abbrev pub block_label : ℕ → Statement → List (List ℕ × ℕ)
block_label n s = if is_block s.word then name_entry (label_of s) (next_block n) else []

-- the numbers of blocks by label, where there were so many before these statements
abbrev pub block_labels : ℕ → List Statement → List (List ℕ × ℕ)
block_labels n [] = []
block_labels n (s ∷ ss) = block_label n s ++ block_labels (blocks_up_to n s) ss

-- the number of the last block of a label, from 1
abbrev pub block_of : List Statement → List ℕ → Option ℕ
block_of statements label = last_of (block_labels 0 statements) label

-- NUMBERS

-- the number that the operand of an EQU is, where names above it are these numbers: a whole number, or a name that is one
abbrev pub number_of : (List ℕ → Option ℤ) → Operand → Option ℤ
number_of above (operands.Whole z) = Some z
number_of above (operands.Expression (expressions.Name name)) = above (string_bytes name)
number_of above operand = None

-- that of a statement, if it is an EQU of a number
abbrev pub equ_number_in : (List ℕ → Option ℤ) → Word → List Operand → Option ℤ
equ_number_in above words.Equ (operand ∷ []) = number_of above operand
equ_number_in above word operands = None

-- what a name is below a statement, where it is this above
abbrev pub number_below : (List ℕ → Option ℤ) → Statement → List ℕ → Option ℤ
number_below above s name =
    option_or (option_and_then (λ z. option_and_then (λ label. if bytes_eq name label then Some z else None) (label_of s))
    (equ_number_in above s.word s.operands.items))
    (above name)

-- what names are below these statements
abbrev pub numbers_below : (List ℕ → Option ℤ) → List Statement → List ℕ → Option ℤ
numbers_below above [] = above
numbers_below above (s ∷ ss) = numbers_below (number_below above s) ss

-- the number that an EQU of a text is, if it is one
abbrev pub equ_number_of : List Statement → List ℕ → Option ℤ
equ_number_of statements = numbers_below (λ name. None) statements

-- STATEMENTS ONE BY ONE

module _ {A E : Type 0} (result : Result A E) (old new : Places) (statement : Statement) where
  -- where there is memory, the PROCEDURE that a statement at this place declares, if it does, stands for it from now on
  abbrev pub SetsProcedure : ℕ → Type 0
  SetsProcedure place = Sets result old.procedures new.procedures (name_entry (declared_procedure statement) place)

  -- and so does its EQU
  abbrev pub SetsEqu : ℕ → Type 0
  SetsEqu place = Sets result old.equs new.equs (name_entry (declared_equ statement) place)

  -- where there is memory, names are the numbers that they are below the statement
  abbrev pub SetsNumber : Type 0
  SetsNumber = OnOk result (Finds (number_below (found_in old.equ_numbers) statement) new.equ_numbers)
