-- What is evaluated for an operand, and for an entity.
use Rattle.std.specs.Prelude.{ℕ, List, [], ◌∷◌, Option, Some, None, Bool, true, false, option_to_list, unwrap_or, slice_get}
use Rattle.std.specs.Option.{option_map, option_and_then}
use Rattle.gw_object.specs.declared.blocks.EntityAttribute.{EntityAttribute}
use Rattle.gw_object.specs.declared.blocks.EntityAttribute.TheVariants.{VariableValue, BooleanValue, FunctionValue}
use Rattle.gw_object.specs.declared.blocks.Operand.{Operand}
use Rattle.gw_object.specs.declared.blocks.Operand.TheVariants as operands
use Rattle.gw_object.specs.declared.blocks.Block.{Block}
use Rattle.gw_object.specs.declared.blocks.Block.TheVariants as blocks
use Rattle.gw_object.specs.declared.code.Sna.{Sna}
use Rattle.gw_object.specs.declared.code.Sna.TheVariants.{Parameter, Attribute, OfEntity}
use Rattle.gw_object.specs.declared.parts.Kind.{Kind}
use Rattle.gw_object.specs.declared.parts.Kind.TheVariants as kinds
use Rattle.gw_object.specs.declared.parts.Entity.{Entity}

-- the kind of the entity of a number; entities count from 0
abbrev pub kind_at : List Entity → ℕ → Option Kind
kind_at es e = option_map (λ (entity : Entity). entity.kind) (slice_get es e)

-- the operand that is evaluated for an entity of this kind, if one is: a table's or a function's argument, or a call of a variable's procedure
abbrev pub operand_of : Kind → Option Operand
operand_of (kinds.Table t) = Some t.argument
operand_of (kinds.Variable q) = Some (operands.Procedure q)
operand_of (kinds.BooleanVariable q) = Some (operands.Procedure q)
operand_of (kinds.Function f) = Some f.argument
operand_of kind = None

-- and for the entity of a number
abbrev pub operand_at : List Entity → ℕ → Option Operand
operand_at es e = option_and_then operand_of (kind_at es e)

-- the operands of a block that are evaluated, in order
abbrev pub values : Block → List Operand
values (blocks.Generate g) = g.interval.mean ∷ g.interval.half ∷ []
values (blocks.Terminate by) = by ∷ []
values (blocks.Advance time) = time.mean ∷ time.half ∷ []
values (blocks.Assign a) = a.value ∷ []
values (blocks.Test t) = t.left ∷ t.right ∷ []
values (blocks.Savevalue s) = s.value ∷ []
values (blocks.Priority p) = p.value ∷ []
values (blocks.Plus a) = a.value ∷ []
values block = []

-- and those that are evaluated when a transaction enters it: at a TABULATE the argument of its table
abbrev pub evaluation_operands : List Entity → Block → List Operand
evaluation_operands es (blocks.Tabulate t) = option_to_list (operand_at es t)
evaluation_operands es block = values block

-- SOURCES

-- of an attribute that is a function's value, this operand; of another one the other
abbrev pub if_function : EntityAttribute → Operand → Operand → Operand
if_function FunctionValue argument other = argument
if_function attribute argument other = other

-- of an attribute that is a variable's value, this operand; of another one the other
abbrev pub if_variable : EntityAttribute → Operand → Operand → Operand
if_variable VariableValue call other = call
if_variable BooleanValue call other = call
if_variable attribute call other = other

-- the operand that a function's value is made of is its argument; any other operand is its own
abbrev pub argument_in : List Entity → Operand → Operand
argument_in es (operands.OfEntity a) = if_function a.attribute (unwrap_or (operand_at es a.number) (operands.OfEntity a)) (operands.OfEntity a)
argument_in es operand = operand

-- the operand that a variable's value is made of is a call of its procedure; any other operand is its own
abbrev pub call_in : List Entity → Operand → Operand
call_in es (operands.OfEntity a) = if_variable a.attribute (unwrap_or (operand_at es a.number) (operands.OfEntity a)) (operands.OfEntity a)
call_in es operand = operand

-- the source of an operand: what is evaluated for it in the end
abbrev pub source_of : List Entity → Operand → Operand
source_of es operand = call_in es (argument_in es operand)

-- an attribute that code reads, as an operand
abbrev pub as_operand : Sna → Operand
as_operand (Parameter p) = operands.Parameter p
as_operand (Attribute a) = operands.Attribute a
as_operand (OfEntity a) = operands.OfEntity a

-- the procedure that an operand calls, if it is a call
abbrev pub procedure_named : Operand → Option ℕ
procedure_named (operands.Procedure q) = Some q
procedure_named operand = None

-- whether an operand is a function's value
abbrev pub is_function_value : Operand → Bool
is_function_value (operands.OfEntity a) = is_function a.attribute
  where
    is_function : EntityAttribute → Bool
    is_function FunctionValue = true
    is_function attribute = false
is_function_value operand = false

-- whether an operand is drawn
abbrev pub is_drawn : Operand → Bool
is_drawn (operands.Random j) = true
is_drawn operand = false
