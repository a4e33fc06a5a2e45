-- What is made of a model text, before it is an object.
use Rattle.std.specs.Prelude.{◌≡◌, ◌≤◌, ◌⊎◌, ℕ, List, [], length, Vec, Option, Some, None}
use Rattle.std.specs.Global.{Global}
use Rattle.gw_object.specs.declared.blocks.Block.{Block}
use Rattle.gw_object.specs.declared.blocks.Numbered.{Numbered}
use Rattle.gw_object.specs.declared.code.Procedure.{Procedure}
use Rattle.gw_object.specs.declared.parts.Entity.{Entity}
use Rattle.gw_object.specs.declared.fault.Fault.{Fault}
use Rattle.gw_object.specs.declared.limits.TheConstants.{MOST_PROCEDURES}
use Rattle.gw_object.specs.Reading.{out_of_memory}
use Rattle.gw_text.specs.declared.model.Model.{Model}
use Rattle.gw_text.specs.declared.model.Statement.{Statement}
use Rattle.gw_compile.specs.Numbers.{Numbers}
use Rattle.gw_names.specs.declared.ledger.Ledger.{Ledger}
use Rattle.gw_names.specs.declared.ledger.Noted.{Noted}
use Rattle.gw_names.specs.Judgement.{refusals_in}
use Rattle.gw_names.specs.Known.{found_in}
use Rattle.gw_names.specs.Ledger.{as_fault, with_notes}
use Rattle.gw_names.specs.Sights.{entities_of, limits_in}
use Rattle.gw_pieces.specs.declared.naming.Meanings.{Meanings}
use Rattle.gw_pieces.specs.declared.origins.Origin.{Origin}
use Rattle.gw_pieces.specs.declared.pieces.Code.{Code}
use Rattle.gw_pieces.specs.declared.pieces.Pieces.{Pieces}
use Rattle.gw_pieces.specs.declared.planning.Ordered.{Ordered}
use Rattle.gw_pieces.specs.declared.plan.Plan.{Plan}
use Rattle.gw_pieces.specs.Clear.{StaysClear}
use Rattle.gw_pieces.specs.Entities.{AreEntitiesOf}
use Rattle.gw_pieces.specs.Naming.{callee_of, equ_meant}
use Rattle.gw_pieces.specs.Numbers.{source_in}
use Rattle.gw_pieces.specs.Order.{order_in}
use Rattle.gw_pieces.specs.Pieces.{NumbersText, IsPlan, HasCode, IsNamed}
use Rattle.gw_pieces.specs.Plans.{names_planned, order_planned, text_planned, AreFew}
use Rattle.gw_pieces.specs.Reasons.{NotesCode, PieceMissing, surplus_in}

-- entities, procedures and blocks are those that statements become
pub record AreMade (ss : List Statement) (entities : List Entity) (procedures : List Procedure) (blocks : List Block) : Type 0 where
  pub numbers : Numbers
  pub order : List Origin
  pub names : NumbersText numbers order ss
  pub sources : (of : Numbered) → numbers.source of ≡ source_in entities of
  pub each_entity : AreEntitiesOf numbers order ss (entities_of ss) entities
  pub code : HasCode numbers order ss procedures blocks

-- and no name of the statements is refused
pub record AreMadeNamed (ss : List Statement) (entities : List Entity) (procedures : List Procedure) (blocks : List Block) : Type 0 where
  pub made : AreMade ss entities procedures blocks
  pub named : IsNamed ss

-- what the names of PROCEDUREs and EQUs stand for is known, where the procedures have these origins, in order
pub record AreMeanings (ss : List Statement) (order : List Origin) (meanings : Meanings) : Type 0 where
  pub procedures : (name : List ℕ) → found_in meanings.procedures name ≡ callee_of ss order name
  pub equs : (name : List ℕ) → found_in meanings.equs name ≡ equ_meant ss order name

-- what was noted goes on with all code of a text that is too long, and with what its pieces lack
pub record NotesPieces (ss : List Statement) (before after : Option Noted) : Type 0 where
  pub numbers : Numbers
  pub names : NumbersText numbers (order_in ss) ss
  pub notes : NotesCode numbers (order_in ss) ss (PieceMissing numbers (order_in ss) ss) before after

-- the first refusal behind those of names and of a procedure too many
abbrev pub noted_of_names : List Statement → Option Noted → Option Noted
noted_of_names ss before = with_notes (with_notes before (refusals_in ss)) (surplus_in ss (order_in ss))

abbrev pub noted_of_text : List Statement → Option Noted → Option Noted
noted_of_text ss before = noted_of_names ss (with_notes before (limits_in ss))

-- a text is refused at a line: by the first of the refusals of its names, of a procedure too many, and of what its pieces lack
pub record IsRefusedAtLine (ss : List Statement) (fault : Fault) : Type 0 where
  pub note : Noted
  pub first : NotesPieces ss (noted_of_text ss None) (Some note)
  pub answer : fault ≡ as_fault note

-- a text isn't made: it is refused at a line, or memory ran out
abbrev pub IsNotMade : List Statement → Fault → Type 0
IsNotMade ss fault = IsRefusedAtLine ss fault ⊎ (fault ≡ out_of_memory)

-- PLANS

-- a plan is that of a text
abbrev pub IsPlanOf : Model → Plan → Type 0
IsPlanOf text plan = plan.text.now ≡ text

-- a plan whose names have these entities
abbrev pub with_entities : (plan : Plan) (made : Vec Entity Global)
    → IsPlan (text_planned plan) (record plan.names { list = made }) (order_planned plan) plan.sighted.items → Plan
with_entities plan made planned = record plan { names = record plan.names { list = made }; planned = planned }

-- the names of a plan get these entities
abbrev pub GetsEntities : Plan → Vec Entity Global → Plan → Type 0
GetsEntities old made new = (planned : IsPlan (text_planned old) (record old.names { list = made }) (order_planned old) old.sighted.items)
    × (new ≡ with_entities old made planned)

-- where nothing is noted, there are no more origins than an object has procedures
abbrev pub HasRoom : Ledger → Ledger → Vec Origin Global → Type 0
HasRoom old new order = StaysClear old new (length order.items ≤ MOST_PROCEDURES)

-- the meanings of a text's names are those of its procedures' order
abbrev pub HasMeanings : Model → Ordered → Type 0
HasMeanings text ordered = AreMeanings text.statements.items ordered.order.items ordered.meanings

-- the first of these origins for which an object has no room is noted
abbrev pub NotesSurplus : Model → List Origin → Ledger → Ledger → Type 0
NotesSurplus text order old new = new.least ≡ with_notes old.least (surplus_in text.statements.items order)

module _ (text : Model) where
  -- the statements become no more procedures than an object has
  abbrev pub HasFew : Type 0
  HasFew = length (order_in text.statements.items) ≤ MOST_PROCEDURES

  -- no use of a name is refused
  abbrev pub RefusesNone : Type 0
  RefusesNone = refusals_in text.statements.items ≡ []

  -- and neither is any name
  abbrev pub IsNamedText : Type 0
  IsNamedText = IsNamed text.statements.items

  -- a procedure too many is noted
  abbrev pub NotesOrder : Ledger → Ledger → Type 0
  NotesOrder old new = NotesSurplus text (order_in text.statements.items) old new

  -- uses of names that are refused, and a procedure too many, are
  abbrev pub NotesNames : Ledger → Ledger → Type 0
  NotesNames old new = new.least ≡ noted_of_names text.statements.items old.least

  -- and all names that are
  abbrev pub NotesText : Ledger → Ledger → Type 0
  NotesText old new = new.least ≡ noted_of_text text.statements.items old.least

  -- pieces are those that the statements become, and no name of them is refused
  abbrev pub AreNamedPieces : Pieces → Type 0
  AreNamedPieces pieces = AreMadeNamed text.statements.items pieces.entities.items pieces.procedures.items pieces.blocks.items

  -- so it is where nothing is noted
  abbrev pub Makes : Ledger → Ledger → Pieces → Type 0
  Makes old new pieces = StaysClear old new (AreNamedPieces pieces)

  -- all that is refused is noted
  abbrev pub NotesAll : Ledger → Ledger → Type 0
  NotesAll old new = NotesPieces text.statements.items (noted_of_text text.statements.items old.least) new.least

module _ (plan : Plan) where
  -- where nothing is noted, procedures and blocks are those that the statements become
  abbrev pub MakesCode : Ledger → Ledger → Code → Type 0
  MakesCode old new code =
      StaysClear old new (AreFew plan → HasCode (names_planned plan) (order_planned plan) (text_planned plan) code.procedures.items code.blocks.items)

  -- and so are all pieces
  abbrev pub MakesPieces : Ledger → Ledger → Pieces → Type 0
  MakesPieces old new pieces = StaysClear old new (AreFew plan → AreMade (text_planned plan) pieces.entities.items pieces.procedures.items pieces.blocks.items)

  -- what the pieces lack is noted
  abbrev pub NotesPlan : Ledger → Ledger → Type 0
  NotesPlan old new = NotesPieces (text_planned plan) old.least new.least
