-- What `==` answers of the parts of objects, as it is derived.
use Rattle.std.specs.Prelude.{◌≡◌, Bool, Decides}
use Rattle.gw_object.specs.declared.blocks.Operand.{Operand}
use Rattle.gw_object.specs.contracts.blocks.OperandPartialEq.TheImpl as operand_eq
use Rattle.gw_object.specs.declared.blocks.Block.{Block}
use Rattle.gw_object.specs.contracts.blocks.BlockPartialEq.TheImpl as block_eq
use Rattle.gw_object.specs.declared.code.Instruction.{Instruction}
use Rattle.gw_object.specs.contracts.code.InstructionPartialEq.TheImpl as instruction_eq
use Rattle.gw_object.specs.declared.code.Procedure.{Procedure}
use Rattle.gw_object.specs.contracts.code.ProcedurePartialEq.TheImpl as procedure_eq
use Rattle.gw_object.specs.declared.parts.Entity.{Entity}
use Rattle.gw_object.specs.contracts.parts.EntityPartialEq.TheImpl as entity_eq
use Rattle.gw_object.specs.declared.parts.TableState.{TableState}
use Rattle.gw_object.specs.contracts.parts.TableStatePartialEq.TheImpl as state_eq
use Rattle.gw_object.specs.declared.parts.Parts.{Parts}
use Rattle.gw_object.specs.contracts.parts.PartsPartialEq.TheImpl as parts_eq

-- it answers true exactly for equal values
abbrev pub TellsApart : {K : Type 0} → (K → K → Bool) → Type 0
TellsApart {K} E = (x y : K) → Decides (E x y) (x ≡ y)

-- what `==` answers of two operands
abbrev pub same_operand : Operand → Operand → Bool
same_operand = operand_eq.ghosts.eq

-- what `==` answers of two blocks
abbrev pub same_block : Block → Block → Bool
same_block = block_eq.ghosts.eq

-- what `==` answers of two instructions
abbrev pub same_instruction : Instruction → Instruction → Bool
same_instruction = instruction_eq.ghosts.eq

-- what `==` answers of two procedures
abbrev pub same_procedure : Procedure → Procedure → Bool
same_procedure = procedure_eq.ghosts.eq

-- what `==` answers of two entities
abbrev pub same_entity : Entity → Entity → Bool
same_entity = entity_eq.ghosts.eq

-- what `==` answers of two rows of the state table
abbrev pub same_state : TableState → TableState → Bool
same_state = state_eq.ghosts.eq

-- what `==` answers of the parts of two objects
abbrev pub same_parts : Parts → Parts → Bool
same_parts = parts_eq.ghosts.eq
