-- What the pieces of a model text are made by, and what the passes over it make and note.
use Rattle.std.specs.Prelude.{◌≡◌, ◌≤◌, ℕ, List, ◌++◌, length, Vec, Option, Some}
use Rattle.std.specs.Global.{Global}
use Rattle.gw_object.specs.declared.blocks.Block.{Block}
use Rattle.gw_object.specs.declared.code.Procedure.{Procedure}
use Rattle.gw_object.specs.declared.limits.TheConstants.{MOST_PROCEDURES}
use Rattle.gw_object.specs.declared.parts.Entity.{Entity}
use Rattle.gw_object.specs.declared.parts.Kind.{Kind}
use Rattle.gw_text.specs.declared.model.Statement.{Statement}
use Rattle.gw_compile.specs.Numbers.{Numbers}
use Rattle.gw_names.specs.declared.ledger.Ledger.{Ledger}
use Rattle.gw_names.specs.declared.ledger.Noted.{Noted}
use Rattle.gw_names.specs.declared.sights.Sighted.{Sighted}
use Rattle.gw_names.specs.Numbers.{numbers_of}
use Rattle.gw_object_records.specs.Entities.{entity_kind}
use Rattle.gw_pieces.specs.declared.origins.Origin.{Origin}
use Rattle.gw_pieces.specs.declared.plan.Plan.{Plan}
use Rattle.gw_pieces.specs.Blocks as blocks
use Rattle.gw_pieces.specs.Clear.{StaysClear}
use Rattle.gw_pieces.specs.Entities.{GrowsBy, IsKindBy, IsSightedAs, AreSightedAs}
use Rattle.gw_pieces.specs.Notes.{NotesMissing, NotesUnless}
use Rattle.gw_pieces.specs.Origins as numbers
use Rattle.gw_pieces.specs.Reasons.{NotesStatement, NotesOrigin, NotesCode, least_after_block, BlockMissing, ProcedureMissing, CodeOrBlockMissing}
use Rattle.gw_pieces.specs.Reasons.{DeclarationMissing, EntityMissing}
use Rattle.gw_pieces.specs.Sources.{IsProcedureOf, ComesFrom, AreCompiled, Grows}
use Rattle.std.specs.Prelude.{string_bytes}

-- the numbers of the names
abbrev pub names_planned : Plan → Numbers
names_planned plan = numbers_of plan.names

-- the origins of the procedures, in the order of their numbers
abbrev pub order_planned : Plan → List Origin
order_planned plan = plan.order.items

-- the statements
abbrev pub text_planned : Plan → List Statement
text_planned plan = plan.text.now.statements.items

module _ (plan : Plan) where
  -- an object has room for all procedures
  abbrev pub AreFew : Type 0
  AreFew = length (order_planned plan) ≤ MOST_PROCEDURES

  -- BLOCKS

  -- the number of the procedure that the operand at a position of a statement becomes
  abbrev pub number_for : Statement → ℕ → ℕ → Option ℕ
  number_for s i k = numbers.number_for (names_planned plan) (order_planned plan) s i k

  -- and of those that its operands become
  abbrev pub numbers_for : Statement → ℕ → List (Option ℕ)
  numbers_for s i = numbers.numbers_for (names_planned plan) (order_planned plan) s i

  -- the record of a block statement
  abbrev pub record_at : Statement → ℕ → Option Block
  record_at s i = blocks.record_at (names_planned plan) (order_planned plan) s i

  -- the record of a statement comes behind others, if it is a block
  abbrev pub AddsBlock : Statement → ℕ → Vec Block Global → Vec Block Global → Type 0
  AddsBlock s i old new = new.items ≡ old.items ++ blocks.block_at (names_planned plan) (order_planned plan) s i

  -- where nothing is noted, it has one
  abbrev pub Records : Statement → ℕ → Ledger → Ledger → Type 0
  Records s i old new = StaysClear old new (blocks.IsRecorded (names_planned plan) (order_planned plan) s i)

  -- what is noted of it
  abbrev pub NotesBlock : Statement → ℕ → Ledger → Ledger → Type 0
  NotesBlock s i old new = new.least ≡ least_after_block (names_planned plan) (order_planned plan) s i old.least

  -- the same of all statements
  abbrev pub AreBlocks : Vec Block Global → Type 0
  AreBlocks made = made.items ≡ blocks.blocks_from (names_planned plan) (order_planned plan) 0 (text_planned plan)

  abbrev pub RecordsAll : Ledger → Ledger → Type 0
  RecordsAll old new = StaysClear old new (blocks.AllRecorded (names_planned plan) (order_planned plan) 0 (text_planned plan))

  abbrev pub NotesBlocks : Ledger → Ledger → Type 0
  NotesBlocks old new = NotesMissing (BlockMissing (names_planned plan) (order_planned plan) (text_planned plan)) old.least new.least

  -- PROCEDURES

  -- where nothing is noted, what is compiled from a position of a statement comes behind others
  abbrev pub AddsCode : Statement → ℕ → Ledger → Ledger → Vec Procedure Global → Vec Procedure Global → Type 0
  AddsCode s k before after old new = StaysClear before after (Grows (IsProcedureOf (names_planned plan) old.items s k) old.items new.items)

  -- what is noted of it
  abbrev pub NotesCodeAt : Statement → ℕ → Ledger → Ledger → Type 0
  NotesCodeAt s k old new = NotesStatement (names_planned plan) s k old.least new.least

  -- the same of an origin
  abbrev pub AddsCodeOf : Origin → Ledger → Ledger → Vec Procedure Global → Vec Procedure Global → Type 0
  AddsCodeOf origin before after old new =
      StaysClear before after (Grows (ComesFrom (names_planned plan) (text_planned plan) old.items origin) old.items new.items)

  abbrev pub NotesCodeOf : Origin → Ledger → Ledger → Type 0
  NotesCodeOf origin old new = NotesOrigin (names_planned plan) (text_planned plan) origin old.least new.least

  -- and of all origins, where an object has room for them
  abbrev pub AreProcedures : Ledger → Ledger → Vec Procedure Global → Type 0
  AreProcedures old new made = StaysClear old new (AreFew → AreCompiled (names_planned plan) (text_planned plan) (order_planned plan) made.items)

  -- what may be noted while this is missing
  abbrev pub NotesWhere : (Numbers → List Origin → List Statement → Noted → Type 0) → Ledger → Ledger → Type 0
  NotesWhere Missing old new =
      NotesCode (names_planned plan) (order_planned plan) (text_planned plan)
      (Missing (names_planned plan) (order_planned plan) (text_planned plan)) old.least new.least

  abbrev pub NotesProcedures : Ledger → Ledger → Type 0
  NotesProcedures old new = NotesWhere ProcedureMissing old new

  abbrev pub NotesCodeAndBlocks : Ledger → Ledger → Type 0
  NotesCodeAndBlocks old new = NotesWhere CodeOrBlockMissing old new

  -- ENTITIES

  -- what the declaration at a place makes of an entity
  abbrev pub kind_declared : Statement → ℕ → Option Kind
  kind_declared s i = entity_kind (names_planned plan) (numbers_for s i) s

  -- where nothing is noted, it makes this
  abbrev pub Declares : Statement → ℕ → Ledger → Ledger → Kind → Type 0
  Declares s i old new kind = StaysClear old new (kind_declared s i ≡ Some kind)

  -- what is noted of it
  abbrev pub NotesDeclared : Statement → ℕ → Ledger → Ledger → Type 0
  NotesDeclared s i old new = NotesUnless (kind_declared s i) s.line old new

  -- where nothing is noted, an entity that was sighted is this
  abbrev pub IsKind : Sighted → Ledger → Ledger → Kind → Type 0
  IsKind e old new kind = StaysClear old new
      (IsKindBy (names_planned plan) (order_planned plan) (text_planned plan) e.declaration e.kind (string_bytes e.name) kind)

  -- what is noted of it
  abbrev pub NotesSighted : Sighted → Ledger → Ledger → Type 0
  NotesSighted e old new = NotesMissing (DeclarationMissing (names_planned plan) (order_planned plan) (text_planned plan) e.declaration) old.least new.least

  -- where nothing is noted, it comes behind others
  abbrev pub AddsEntity : Sighted → Ledger → Ledger → Vec Entity Global → Vec Entity Global → Type 0
  AddsEntity e before after old new =
      StaysClear before after (GrowsBy (IsSightedAs (names_planned plan) (order_planned plan) (text_planned plan) e) old.items new.items)

  -- the same of all that were sighted
  abbrev pub AreEntities : Ledger → Ledger → Vec Entity Global → Type 0
  AreEntities old new made = StaysClear old new (AreSightedAs (names_planned plan) (order_planned plan) (text_planned plan) plan.sighted.items made.items)

  abbrev pub NotesEntities : Ledger → Ledger → Type 0
  NotesEntities old new = NotesMissing (EntityMissing (names_planned plan) (order_planned plan) (text_planned plan) plan.sighted.items) old.least new.least
