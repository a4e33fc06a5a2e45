-- What a model text becomes, piece by piece.
use Rattle.std.specs.Prelude.{◌≡◌, ℕ, List, [], Some, None, length, map, replicate, slice_get}
use Rattle.gw_object.specs.declared.blocks.Block.{Block}
use Rattle.gw_object.specs.declared.blocks.Numbered.{Numbered}
use Rattle.gw_object.specs.declared.blocks.Operand.{Operand}
use Rattle.gw_object.specs.declared.blocks.Operand.TheVariants as operands
use Rattle.gw_object.specs.declared.code.Procedure.{Procedure}
use Rattle.gw_object.specs.declared.parts.Function.{Function}
use Rattle.gw_object.specs.declared.parts.Kind.{Kind}
use Rattle.gw_object.specs.declared.parts.Kind.TheVariants as kinds
use Rattle.gw_object.specs.declared.parts.Table.{Table}
use Rattle.gw_object.specs.declared.parts.Parts.{Parts}
use Rattle.gw_object.specs.Entities.{chains_in}
use Rattle.gw_object.specs.Grammar.{HasSpelling}
use Rattle.gw_rules.specs.declared.entities.EntityKind.{EntityKind}
use Rattle.gw_rules.specs.Pass.{KindsPass}
use Rattle.gw_rules.specs.Environment.{Environment}
use Rattle.gw_rules.specs.Code.{procedure_at}
use Rattle.gw_rules.specs.PlusLaws.{HasSet}
use Rattle.gw_rules.specs.Outcome.{outcome_of}
use Rattle.gw_rules.specs.PlusChecks.{PlusPasses}
use Rattle.gw_text_expressions.specs.declared.model.Expression.{Expression}
use Rattle.gw_text_tokens.specs.declared.words.Word.{Word}
use Rattle.gw_text_tokens.specs.declared.words.Word.TheVariants as words
use Rattle.gw_text.specs.declared.model.Statement.{Statement}
use Rattle.gw_compile.specs.declared.numbering.Equ.TheVariants as equs
use Rattle.gw_object_records.specs.Entities.{entity_kind}
use Rattle.gw_pieces.specs.Numbers.{with_source, source_in}
use Rattle.gw_compile.specs.Numbers.{Numbers}
use Rattle.gw_compile.specs.Value.{value_of}
use Rattle.gw_names.specs.declared.names.Names.{Names}
use Rattle.gw_names.specs.declared.sights.Sighted.{Sighted}
use Rattle.gw_names.specs.Judgement.{refusals_in}
use Rattle.gw_names.specs.Known.{key}
use Rattle.gw_names.specs.Numbers.{numbers_of}
use Rattle.gw_names.specs.Places.{block_of, declaration_of}
use Rattle.gw_names.specs.Sighting.{keys_of}
use Rattle.gw_names.specs.Sights.{entities_of, number_among, parameter_of, limits_in}
use Rattle.gw_pieces.specs.declared.origins.Origin.{Origin}
use Rattle.gw_pieces.specs.Origins.{expression_at, number_for, numbers_for}
use Rattle.gw_pieces.specs.Blocks.{blocks_from, AllRecorded}
use Rattle.gw_pieces.specs.Entities.{AreEntitiesOf}
use Rattle.gw_pieces.specs.Naming.{callee_of, equ_meant, IsEquOf}
use Rattle.gw_pieces.specs.Order.{order_in}
use Rattle.gw_pieces.specs.Settings.{count_in, seeds_in}
use Rattle.gw_pieces.specs.Versions.{version_of}
use Rattle.gw_pieces.specs.Sources.{AreCompiled}

-- NAMES

-- names have the numbers that the text gives them: entities and parameters in order of first sight, labels those of
-- their blocks, and PROCEDUREs and EQUs by the order of the procedures
pub record NumbersText (n : Numbers) (order : List Origin) (ss : List Statement) : Type 0 where
  pub entities : (kind : EntityKind) (name : List ℕ) → n.entity kind name ≡ number_among (entities_of ss) (key kind name)
  pub labels : (label : List ℕ) → n.block label ≡ block_of ss label
  pub parameters : (name : List ℕ) → n.parameter name ≡ parameter_of ss name
  pub ordered : order ≡ order_in ss
  pub callees : (name : List ℕ) → n.procedure name ≡ callee_of ss order name
  pub equs : (name : List ℕ) → n.equ name ≡ equ_meant ss order name

-- the names, the order of the procedures and the entities that were sighted are those of the text: each entity of which it speaks, with what declares it
pub record IsPlan (ss : List Statement) (names : Names) (order : List Origin) (sighted : List Sighted) : Type 0 where
  pub numbers : NumbersText (numbers_of names) order ss
  pub keys : keys_of sighted ≡ entities_of ss
  pub declared : map (λ (s : Sighted). s.declaration) sighted ≡ map (declaration_of ss) (entities_of ss)

-- PIECES

-- the procedures and the blocks of an object are those that statements become
pub record HasCode (n : Numbers) (order : List Origin) (ss : List Statement) (procedures : List Procedure) (blocks : List Block) : Type 0 where
  -- each procedure is compiled from its origin
  pub compiled : AreCompiled n ss order procedures
  -- there is one block for each block statement, in order: its record
  pub written : blocks ≡ blocks_from n order 0 ss
  pub recorded : AllRecorded n order 0 ss

-- the parts of an object are those that statements become, where names have these numbers and the procedures have these origins, in order
pub record HasPieces (n : Numbers) (order : List Origin) (ss : List Statement) (p : Parts) : Type 0 where
  pub names : NumbersText n order ss
  -- what is evaluated for an attribute is what the object's entities say
  pub sources : (of : Numbered) → n.source of ≡ source_in p.entities of
  pub entities : AreEntitiesOf n order ss (entities_of ss) p.entities
  pub code : HasCode n order ss p.procedures p.blocks
  -- the least version that has the blocks
  pub version : p.version ≡ version_of p.blocks
  pub count : p.count ≡ count_in ss
  pub seeds : p.seeds ≡ seeds_in ss

-- no name of statements is refused
pub record IsNamed (ss : List Statement) : Type 0 where
  pub limits : limits_in ss ≡ []
  pub refusals : refusals_in ss ≡ []

-- nothing of an object is settled yet: it has no state table and no return rows, and each weight is the least, without a slope
pub record IsDraft (p : Parts) : Type 0 where
  pub returns : p.returns ≡ []
  pub states : p.states ≡ replicate (length p.blocks) None
  pub chain_states : p.chain_states ≡ replicate (chains_in p.entities) None
  pub weights : p.weights ≡ replicate (length p.blocks) 1
  pub slopes : p.slopes ≡ replicate (length p.blocks) None
  pub chain_weights : p.chain_weights ≡ replicate (chains_in p.entities) 1

-- an object is made of statements
pub record IsMadeOf (ss : List Statement) (p : Parts) : Type 0 where
  pub named : IsNamed ss
  pub numbers : Numbers
  pub order : List Origin
  pub pieces : HasPieces numbers order ss p

-- VALUES

-- a procedure of an object computes an expression: in each environment that sets what it needs, it comes to the value
-- of the expression's tree, or to its first named end
pub record Computes (n : Numbers) (p : Parts) (e : Expression) (q : ℕ) : Type 0 where
  pub procedure : Procedure
  pub there : procedure_at p q ≡ Some procedure
  pub value : (env : Environment) → HasSet env procedure.needs → outcome_of p env q ≡ value_of n [] p env [] e

-- each operand of a statement that is an expression and has a procedure is computed by it
abbrev pub OperandsCompute : Numbers → List Origin → List Statement → Parts → Type 0
OperandsCompute n order ss p =
    (i : ℕ) (s : Statement) (k : ℕ) (e : Expression) (q : ℕ)
    → slice_get ss i ≡ Some s → expression_at s k ≡ Some e → number_for n order s i k ≡ Some q → Computes n p e q

-- an entity is evaluated by a procedure that computes an expression, where procedures make such entities
pub record IsEvaluated (n : Numbers) (p : Parts) (e : Expression) (by : ℕ → Kind → Type 0) (kind : Kind) : Type 0 where
  pub number : ℕ
  pub kind_is : by number kind
  pub computes : Computes n p e number

-- a variable is its procedure, and a table or a function evaluates one for its argument
abbrev pub ByProcedure : Word → ℕ → Kind → Type 0
ByProcedure words.Variable q kind = kind ≡ kinds.Variable q
ByProcedure words.BVariable q kind = kind ≡ kinds.BooleanVariable q
ByProcedure words.Table q kind = (t : Table) × (kind ≡ kinds.Table t) × (t.argument ≡ operands.Procedure q)
ByProcedure words.Function q kind = (f : Function) × (kind ≡ kinds.Function f) × (f.argument ≡ operands.Procedure q)
ByProcedure word q kind = ⊥

-- what a declaration with this word and an expression makes of an entity is evaluated by a procedure that computes the expression
abbrev pub DeclarationsCompute : Word → Numbers → List Origin → List Statement → Parts → Type 0
DeclarationsCompute word n order ss p =
    (i : ℕ) (s : Statement) (e : Expression) (kind : Kind) (source : Numbered → Operand)
    → slice_get ss i ≡ Some s → s.word ≡ word → expression_at s 0 ≡ Some e
    → entity_kind (with_source n source) (numbers_for (with_source n source) order s i) s ≡ Some kind
    → IsEvaluated n p e (ByProcedure word) kind

-- the name of an EQU that is no number stands for a procedure that computes its expression
pub record IsEquation (n : Numbers) (order : List Origin) (ss : List Statement) (p : Parts) (name : List ℕ) (q : ℕ) : Type 0 where
  pub equ : IsEquOf ss order name q
  pub expression : Expression
  pub there : expression_at equ.statement equ.stands.origin.operand ≡ Some expression
  pub computes : Computes n p expression q

abbrev pub EquationsCompute : Numbers → List Origin → List Statement → Parts → Type 0
EquationsCompute n order ss p = (name : List ℕ) (q : ℕ) → n.equ name ≡ Some (equs.Procedure q) → IsEquation n order ss p name q

-- each expression of a text is computed: of an operand, of a VARIABLE or BVARIABLE, of the argument of a TABLE or FUNCTION, and of an EQU
pub record AllCompute (n : Numbers) (order : List Origin) (ss : List Statement) (p : Parts) : Type 0 where
  pub operands : OperandsCompute n order ss p
  pub variables : DeclarationsCompute words.Variable n order ss p
  pub boolean_variables : DeclarationsCompute words.BVariable n order ss p
  pub tables : DeclarationsCompute words.Table n order ss p
  pub functions : DeclarationsCompute words.Function n order ss p
  pub equations : EquationsCompute n order ss p

-- so it is in an object whose kinds and PLUS code pass
abbrev pub AllComputeWherePassed : Type 0
AllComputeWherePassed =
    (n : Numbers) (order : List Origin) (ss : List Statement) (p : Parts)
    → HasSpelling p → KindsPass p → PlusPasses p → HasPieces n order ss p → AllCompute n order ss p
