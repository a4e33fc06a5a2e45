-- What an object keeps at each block and each row where kinds pass, said apart from the order of the checks.
use Rattle.std.specs.Prelude.{◌≡◌, ◌↔◌, ℕ, ◌<◌, List, length, Some, IfSome, IsTrue, false, slice_get, option_to_list}
use Rattle.std.specs.List.{All}
use Rattle.std.specs.Option.{IsSome, IsSomeAnd}
use Rattle.gw_object.specs.declared.code.Instruction.{Instruction}
use Rattle.gw_object.specs.declared.code.Procedure.{Procedure}
use Rattle.gw_object.specs.declared.parts.Entity.{Entity}
use Rattle.gw_object.specs.declared.blocks.Block.{Block}
use Rattle.gw_object.specs.declared.blocks.Operand.{Operand}
use Rattle.gw_object.specs.declared.parts.TableState.{TableState}
use Rattle.gw_object.specs.declared.parts.ReturnRow.{ReturnRow}
use Rattle.gw_object.specs.declared.parts.Parts.{Parts}
use Rattle.gw_object.specs.Entities.{is_chain}
use Rattle.gw_rules.specs.declared.entities.Named.{Named}
use Rattle.gw_rules.specs.declared.ways.Exit.{Exit}
use Rattle.gw_rules.specs.Exits.{leads_to, exits, other_way}
use Rattle.gw_rules.specs.Procedures.{entity_in, procedure_in, block_in, draws_nothing, has_good_numbers}
use Rattle.gw_rules.specs.Sources.{kind_at, operand_of, procedure_named}
use Rattle.gw_rules.specs.Kinds.{serves_as, entity_of, block_of, named_entities, named_procedures, has_plain_argument, has_plain_half, entities_of_row, return_rows_of, block_at, named_blocks, is_generate, is_call_at, has_good_constants, chain_row}
use Rattle.gw_rules.specs.Pass.{KindsPass}

-- an entity that is named is there, and is what it is needed as
abbrev pub IsEntity : List Entity → Named → Type 0
IsEntity es named = IsSomeAnd (kind_at es named.entity) (λ kind. IsTrue (serves_as named.needed kind))

-- a transaction may go on to the block of a number: it is there, and no GENERATE
abbrev pub MayBeEntered : Parts → ℕ → Type 0
MayBeEntered p b = IsSomeAnd (block_at p.blocks b) (λ block. is_generate (Some block) ≡ false)

-- a procedure that is called without arguments is there, and takes none
abbrev pub TakesNoArguments : Parts → ℕ → Type 0
TakesNoArguments p q = IsSomeAnd (slice_get p.procedures q) (λ (pr : Procedure). pr.arguments ≡ 0)

-- kinds, of an operand: the entity, the procedure and the block that it names
pub record OperandHolds (p : Parts) (o : Operand) : Type 0 where
  pub entity : IfSome (entity_of o) (IsEntity p.entities)
  pub called : IfSome (procedure_named o) (TakesNoArguments p)
  pub block : IfSome (block_of o) (λ b. IsSome (block_at p.blocks b))

-- kinds, at an entity: what is evaluated for it, which for a function isn't a function's value
pub record EntityHolds (p : Parts) (entity : Entity) : Type 0 where
  pub operand : IfSome (operand_of entity.kind) (OperandHolds p)
  pub argument : IsTrue (has_plain_argument entity.kind)

-- kinds, at an instruction of a procedure with so many locals: the entity, the procedure and the block that it names, that it draws nothing, and its numbers
pub record InstructionHolds (p : Parts) (locals : ℕ) (i : Instruction) : Type 0 where
  pub entity : IfSome (entity_in i) (IsEntity p.entities)
  pub called : IfSome (procedure_in i) (λ q. q < length p.procedures)
  pub block : IfSome (block_in i) (λ b. IsSome (block_at p.blocks b))
  pub draws : IsTrue (draws_nothing p.entities i)
  pub numbers : IsTrue (has_good_numbers locals i)

-- kinds, at a procedure: at each of its instructions
abbrev pub ProcedureHolds : Parts → Procedure → Type 0
ProcedureHolds p procedure = All (InstructionHolds p procedure.locals) procedure.code

-- kinds, at a return row: each of its blocks is there, and calls a subroutine
abbrev pub ReturnsHold : Parts → ReturnRow → Type 0
ReturnsHold p row = All (λ b. IsTrue (is_call_at p.blocks b)) row.blocks

-- kinds, at a row of the state table: the entities and the return rows that it names
pub record RowHolds (p : Parts) (row : TableState) : Type 0 where
  pub entities : All (IsEntity p.entities) (entities_of_row row)
  pub returns : All (λ r. r < length p.returns) (return_rows_of row)

-- kinds, at the block of number b: the entities, the procedures and the blocks that it names, that half the range of a
-- time is no function's value, where it goes on and where it sends others, and its constants
pub record BlockHolds (p : Parts) (b : ℕ) (block : Block) : Type 0 where
  pub entities : All (IsEntity p.entities) (named_entities block)
  pub procedures : All (TakesNoArguments p) (named_procedures block)
  pub half : IsTrue (has_plain_half block)
  pub blocks : All (λ named. IsSome (block_at p.blocks named)) (named_blocks block)
  pub exits : All (λ (exit : Exit). MayBeEntered p (leads_to b exit.way)) (exits block)
  pub others : All (λ way. MayBeEntered p (leads_to b way)) (option_to_list (other_way block))
  pub constants : IsTrue (has_good_constants block)

-- kinds, in the row of the state table of the user chain that is the entity of number e, if it is one
abbrev pub ChainHolds : Parts → ℕ → Entity → Type 0
ChainHolds p e entity = IsTrue (is_chain entity.kind) → IfSome (chain_row p e) (RowHolds p)

-- kinds pass exactly where they hold at each entity, at each procedure, at each return row, in each row of the state
-- table, those of user chains too, and at each block
abbrev pub KindsPassAtEachPlace : Type 0
KindsPassAtEachPlace =
    (p : Parts) → KindsPass p ↔ All (EntityHolds p) p.entities × All (ProcedureHolds p) p.procedures × All (ReturnsHold p) p.returns
    × All (λ row. IfSome row (RowHolds p)) p.states
    × ((e : ℕ) (entity : Entity) → slice_get p.entities e ≡ Some entity → ChainHolds p e entity)
    × ((b : ℕ) (block : Block) → block_at p.blocks b ≡ Some block → BlockHolds p b block)
