-- Why a text is refused at a line, beside the refusals of its names.
use Rattle.std.specs.Prelude.{◌≡◌, ◌⊎◌, ◌<◌, ℕ, List, [], ◌∷◌, length, Option, Some, None, true, slice_get, if◌then◌else◌}
use Rattle.std.specs.List.{All}
use Rattle.gw_object.specs.declared.blocks.Numbered.{Numbered}
use Rattle.gw_object.specs.declared.blocks.Operand.{Operand}
use Rattle.gw_object.specs.Limits.{most_instructions}
use Rattle.gw_object.specs.declared.limits.TheConstants.{MOST_PROCEDURES}
use Rattle.gw_text_expressions.specs.declared.model.Expression.{Expression}
use Rattle.gw_text_plus.specs.declared.model.Procedure.{Procedure as TextProcedure}
use Rattle.gw_text.specs.declared.model.Body.{Body}
use Rattle.gw_text.specs.declared.model.Body.TheVariants as bodies
use Rattle.gw_text.specs.declared.model.Statement.{Statement}
use Rattle.gw_compile.specs.declared.faults.CompileFault.{CompileFault}
use Rattle.gw_compile.specs.declared.faults.CompileFault.TheVariants as faults
use Rattle.gw_compile.specs.Code.{procedure_code}
use Rattle.gw_compile.specs.Keeps.{ExceedsLimits}
use Rattle.gw_compile.specs.Numbers.{Numbers}
use Rattle.gw_compile.specs.Statements.{body_of}
use Rattle.gw_compile.specs.Unknown.{Blame, first_blame}
use Rattle.gw_names.specs.declared.ledger.Noted.{Noted}
use Rattle.gw_names.specs.declared.names.Names.{Names}
use Rattle.gw_names.specs.declared.sights.Sighted.{Sighted}
use Rattle.gw_names.specs.Codes.{name_fault, limit_fault}
use Rattle.gw_names.specs.Known.{Key}
use Rattle.gw_names.specs.Ledger.{noted_at, with_note}
use Rattle.gw_names.specs.Numbers.{numbers_of}
use Rattle.gw_text_tokens.specs.Words.{is_block}
use Rattle.gw_names.specs.Places.{declaration_of}
use Rattle.gw_object_records.specs.Entities.{entity_kind}
use Rattle.gw_pieces.specs.declared.compiling.Blamed.{Blamed}
use Rattle.gw_pieces.specs.declared.compiling.Blamed.TheVariants as blamed
use Rattle.gw_pieces.specs.declared.origins.Origin.{Origin}
use Rattle.gw_pieces.specs.Blocks.{record_at}
use Rattle.gw_pieces.specs.Notes.{or_missing, unless_piece, IsFor, NotesMore}
use Rattle.gw_pieces.specs.Numbers.{with_source}
use Rattle.gw_pieces.specs.Origins.{expression_at, numbers_for}

-- CODE

-- somebody is to blame
abbrev pub IsBlamed : Option Blame → Type 0
IsBlamed first = (b : Blame) × (first ≡ Some b)

-- there is no expression at a position of a statement
abbrev pub LacksExpression : Statement → ℕ → Type 0
LacksExpression s k = expression_at s k ≡ None

module _ (n : Numbers) where
  -- the expression there becomes more code than a procedure of an object may have
  abbrev pub IsTooLong : Statement → ℕ → Type 0
  IsTooLong s k = (e : Expression) × (expression_at s k ≡ Some e) × (most_instructions < length (procedure_code n e))

  -- the statement's PROCEDURE does, or else that expression
  abbrev pub ExceedsByBody : Body → Statement → ℕ → Type 0
  ExceedsByBody (bodies.Procedure procedure) s k = ExceedsLimits (body_of n procedure)
  ExceedsByBody bodies.Nothing s k = IsTooLong s k
  ExceedsByBody (bodies.Points points) s k = IsTooLong s k

  abbrev pub Exceeds : Statement → ℕ → Type 0
  Exceeds s k = ExceedsByBody s.body s k

  -- the expression there names what isn't known
  abbrev pub NamesUnknown : Statement → ℕ → Type 0
  NamesUnknown s k = (e : Expression) × (expression_at s k ≡ Some e) × IsBlamed (first_blame n [] e)

  -- what stands at a position of a statement can't be compiled: its PROCEDURE, or else the expression there
  abbrev pub LacksByBody : Body → Statement → ℕ → Type 0
  LacksByBody (bodies.Procedure procedure) s k = IsBlamed (body_of n procedure).blame
  LacksByBody bodies.Nothing s k = LacksExpression s k ⊎ NamesUnknown s k
  LacksByBody (bodies.Points points) s k = LacksExpression s k ⊎ NamesUnknown s k

  abbrev pub LacksCode : Statement → ℕ → Type 0
  LacksCode s k = LacksByBody s.body s k

  -- there is code, and it is too long
  abbrev pub ExceedsKnown : Statement → ℕ → Type 0
  ExceedsKnown s k = Exceeds s k × (LacksCode s k → ⊥)

-- what is to blame, as one word
abbrev pub blamed_by : CompileFault → Blamed
blamed_by (faults.Unknown operand) = blamed.Name
blamed_by (faults.Arguments call) = blamed.Name
blamed_by (faults.Target name) = blamed.Name
blamed_by faults.Limit = blamed.Limit
blamed_by faults.Memory = blamed.Memory

-- what is to blame is noted at a line; want of memory isn't
abbrev pub NotesBlamed : Blamed → ℕ → Option Noted → Option Noted → Type 0
NotesBlamed blamed.Limit line before after = after ≡ with_note before (noted_at line limit_fault)
NotesBlamed blamed.Name line before after = after ≡ or_missing before line
NotesBlamed blamed.Memory line before after = ⊥

-- what is to blame has its reason
abbrev pub Explains : Blamed → Type 0 → Type 0 → Type 0
Explains blamed.Limit Over Missing = Over
Explains blamed.Name Over Missing = Missing
Explains blamed.Memory Over Missing = Unit {0}

-- what is to blame where a PROCEDURE isn't compiled
abbrev pub BlamesBody : Names → TextProcedure → Blamed → Type 0
BlamesBody names procedure b = let body = body_of (numbers_of names) procedure in Explains b (ExceedsLimits body) (IsBlamed body.blame)

-- where the expression at a position of a statement isn't
abbrev pub BlamesOperand : Names → Statement → ℕ → Blamed → Type 0
BlamesOperand names s k b = let n = numbers_of names in Explains b (IsTooLong n s k) (LacksExpression s k ⊎ NamesUnknown n s k)

-- and where what stands there isn't
abbrev pub BlamesPosition : Names → Statement → ℕ → Blamed → Type 0
BlamesPosition names s k b = Explains b (Exceeds (numbers_of names) s k) (LacksCode (numbers_of names) s k)

-- ORIGINS

-- the line of a statement, if there is one
abbrev pub line_of : Option Statement → ℕ
line_of None = 0
line_of (Some s) = s.line

-- the refusal of an origin that is one too many
abbrev pub surplus_at : List Statement → Option Origin → List Noted
surplus_at ss None = []
surplus_at ss (Some origin) = noted_at (line_of (slice_get ss origin.statement)) limit_fault ∷ []

-- the first of these origins is refused for which an object has no room
abbrev pub surplus_in : List Statement → List Origin → List Noted
surplus_in ss order = surplus_at ss (slice_get order MOST_PROCEDURES)

-- the statement of each of these origins is one of so many
abbrev pub StandBelow : ℕ → List Origin → Type 0
StandBelow count order = All (λ (o : Origin). o.statement < count) order

-- the statement of each is there
abbrev pub AllThere : List Statement → List Origin → Type 0
AllThere ss order = StandBelow (length ss) order

-- LINES

-- a refusal is that of the line of the statement at a place, and there is this reason for it
pub record IsAtLine (ss : List Statement) (i : ℕ) (Reason : Statement → Type 0) (code : ℕ) (note : Noted) : Type 0 where
  pub statement : Statement
  pub there : slice_get ss i ≡ Some statement
  pub reason : Reason statement
  pub noted : note ≡ noted_at statement.line code

-- of the line where one of these origins stands, for whose procedure an object has room
pub record IsAtOrigin (order : List Origin) (ss : List Statement) (Reason : Statement → ℕ → Type 0) (code : ℕ) (note : Noted) : Type 0 where
  pub place : ℕ
  pub origin : Origin
  pub among : slice_get order place ≡ Some origin
  pub room : place < MOST_PROCEDURES
  pub line : IsAtLine ss origin.statement (λ s. Reason s origin.operand) code note

-- a statement that is to be there isn't
pub record IsAstray (ss : List Statement) (IsNeeded : ℕ → Type 0) (note : Noted) : Type 0 where
  pub place : ℕ
  pub needed : IsNeeded place
  pub missing : slice_get ss place ≡ None
  pub noted : note ≡ noted_at 0 name_fault

-- one of these origins is of the statement at a place
pub record IsOrigin (order : List Origin) (i : ℕ) : Type 0 where
  pub place : ℕ
  pub origin : Origin
  pub among : slice_get order place ≡ Some origin
  pub statement : origin.statement ≡ i

-- the statement at a place declares one of the entities that were sighted
pub record IsSightedAt (sighted : List Sighted) (i : ℕ) : Type 0 where
  pub place : ℕ
  pub entity : Sighted
  pub among : slice_get sighted place ≡ Some entity
  pub declaration : entity.declaration ≡ Some i

-- the statement at a place declares an entity of the text
abbrev pub IsDeclaration : List Statement → ℕ → Type 0
IsDeclaration ss i = (entity : Key) × (declaration_of ss entity ≡ Some i)

-- PIECES

-- it is so where something is evaluated for attributes in the end: entities are made before that is known
abbrev pub BySome : Numbers → (Numbers → Type 0) → Type 0
BySome n P = (source : Numbered → Operand) × P (with_source n source)

module _ (n : Numbers) (order : List Origin) where
  -- a block statement has no record
  abbrev pub LacksRecord : ℕ → Statement → Type 0
  LacksRecord i s = (is_block s.word ≡ true) × (record_at n order s i ≡ None)

  -- a declaration makes no entity
  abbrev pub LacksKind : ℕ → Statement → Type 0
  LacksKind i s = BySome n (λ m. entity_kind m (numbers_for m order s i) s ≡ None)

  -- the first refusal behind a statement: 80 where it is a block and has no record
  abbrev pub least_after_block : Statement → ℕ → Option Noted → Option Noted
  least_after_block s i least = if is_block s.word then unless_piece (record_at n order s i) least s.line else least

module _ (n : Numbers) (ss : List Statement) where
  -- the code of an origin is too long
  abbrev pub OriginLimit : Origin → Noted → Type 0
  OriginLimit o = IsAtLine ss o.statement (λ s. Exceeds n s o.operand) limit_fault

  -- there is code, and it is too long
  abbrev pub OriginDue : Origin → Noted → Type 0
  OriginDue o = IsAtLine ss o.statement (λ s. ExceedsKnown n s o.operand) limit_fault

  -- or there is none
  abbrev pub OriginMissing : Origin → Noted → Type 0
  OriginMissing o note =
      IsAtLine ss o.statement (λ s. LacksCode n s o.operand) name_fault note
      ⊎ IsAstray ss (λ i. o.statement ≡ i) note

module _ (n : Numbers) (order : List Origin) (ss : List Statement) where
  -- a block lacks its record, at its line
  abbrev pub BlockMissing : Noted → Type 0
  BlockMissing note = (i : ℕ) × IsAtLine ss i (LacksRecord n order i) name_fault note

  -- one of these declarations lacks its entity
  abbrev pub KindMissing : (ℕ → Type 0) → Noted → Type 0
  KindMissing Declares note = (i : ℕ) × Declares i × IsAtLine ss i (LacksKind n order i) name_fault note

  -- one of these origins lacks its code
  abbrev pub CodeMissing : Noted → Type 0
  CodeMissing = IsAtOrigin order ss (LacksCode n) name_fault

  -- or its code is too long
  abbrev pub CodeLimit : Noted → Type 0
  CodeLimit = IsAtOrigin order ss (Exceeds n) limit_fault

  -- one of these origins has its code, and that is too long
  abbrev pub CodeDue : Noted → Type 0
  CodeDue = IsAtOrigin order ss (ExceedsKnown n) limit_fault

  -- what may be missing while code is made
  abbrev pub ProcedureMissing : Noted → Type 0
  ProcedureMissing note = CodeMissing note ⊎ IsAstray ss (IsOrigin order) note

  -- while code and blocks are made
  abbrev pub CodeOrBlockMissing : Noted → Type 0
  CodeOrBlockMissing note = ProcedureMissing note ⊎ BlockMissing note

  -- of an entity that the statement at this place declares
  abbrev pub DeclarationMissing : Option ℕ → Noted → Type 0
  DeclarationMissing declaration note = KindMissing (λ i. declaration ≡ Some i) note ⊎ IsAstray ss (λ i. declaration ≡ Some i) note

  -- while entities are made
  abbrev pub EntityMissing : List Sighted → Noted → Type 0
  EntityMissing sighted note = KindMissing (IsSightedAt sighted) note ⊎ IsAstray ss (IsSightedAt sighted) note

  -- and while all is made
  abbrev pub AnyMissing : List Sighted → Noted → Type 0
  AnyMissing sighted note = EntityMissing sighted note ⊎ CodeOrBlockMissing note

  -- a piece that a text needs is missing: the record of a block, what a declaration makes, or code
  abbrev pub PieceMissing : Noted → Type 0
  PieceMissing note = BlockMissing note ⊎ (KindMissing (IsDeclaration ss) note ⊎ CodeMissing note)

-- WHAT IS NOTED

-- what is to be told of the code at a position of a statement is noted at its line
abbrev pub NotesStatement : Numbers → Statement → ℕ → Option Noted → Option Noted → Type 0
NotesStatement n s k before after =
    NotesMore (IsFor (Exceeds n s k) s.line limit_fault) (IsFor (ExceedsKnown n s k) s.line limit_fault)
    (IsFor (LacksCode n s k) s.line name_fault) before after

-- and of that of an origin
abbrev pub NotesOrigin : Numbers → List Statement → Origin → Option Noted → Option Noted → Type 0
NotesOrigin n ss o before after = NotesMore (OriginLimit n ss o) (OriginDue n ss o) (OriginMissing n ss o) before after

-- all code of these origins that is too long is noted, and this may be missing
abbrev pub NotesCode : Numbers → List Origin → List Statement → (Noted → Type 0) → Option Noted → Option Noted → Type 0
NotesCode n order ss Missing before after = NotesMore (CodeLimit n order ss) (CodeDue n order ss) Missing before after
