-- What the checks of PLUS code and its meaning share: what each instruction takes, leaves, needs and costs, and where it leads.
use Rattle.std.specs.Prelude.{ℕ, ◌+◌, ◌*◌, List, [], ◌∷◌, ◌++◌, Option, Some, None, Bool, true, false, ◌==◌, ◌||◌, ◌&&◌, nat_le, nat_lt, slice_get}
use Rattle.std.specs.Option.{option_map_or}
use Rattle.gw_num.specs.Table.{at}
use Rattle.gw_object.specs.declared.blocks.Operand.{Operand}
use Rattle.gw_object.specs.declared.blocks.Operand.TheVariants as operands
use Rattle.gw_object.specs.declared.code.Instruction.{Instruction}
use Rattle.gw_object.specs.declared.code.Instruction.TheVariants.{Push, Get, Set, Value, Binary, Unary, Pop, Jump, JumpIfZero, Back, Call, Return}
use Rattle.gw_object.specs.declared.code.Procedure.{Procedure}
use Rattle.gw_object.specs.declared.parts.Parts.{Parts}
use Rattle.gw_object.specs.declared.parts.Entity.{Entity}
use Rattle.gw_rules.specs.Sources.{source_of, as_operand, procedure_named}

-- the procedure of a number; procedures count from 0
abbrev pub procedure_at : Parts → ℕ → Option Procedure
procedure_at p n = slice_get p.procedures n

-- how many arguments a procedure takes
abbrev pub arguments_of : Option Procedure → ℕ
arguments_of procedure = option_map_or (λ (pr : Procedure). pr.arguments) procedure 0

-- the parameters that a procedure needs
abbrev pub needs_of : Option Procedure → List ℕ
needs_of procedure = option_map_or (λ (pr : Procedure). pr.needs) procedure []

-- THE STACK

-- the most values on the stack of an activation
abbrev pub most_values : ℕ
most_values = 64

-- how many values an instruction takes from the stack
abbrev pub takes : Parts → Instruction → ℕ
takes p (Set local) = 1
takes p (Binary operator) = 2
takes p (Unary operator) = 1
takes p Pop = 1
takes p (JumpIfZero target) = 1
takes p (Call q) = arguments_of (procedure_at p q)
takes p Return = 1
takes p instruction = 0

-- how many values it leaves there
abbrev pub leaves : Instruction → ℕ
leaves (Push z) = 1
leaves (Get local) = 1
leaves (Value sna) = 1
leaves (Binary operator) = 1
leaves (Unary operator) = 1
leaves (Call q) = 1
leaves instruction = 0

-- JUMPS

-- where the instruction k leads within its procedure: most lead to the next one
abbrev pub targets : ℕ → Instruction → List ℕ
targets k (Jump target) = target ∷ []
targets k (JumpIfZero target) = (k + 1) ∷ target ∷ []
targets k (Back b) = b.target ∷ []
targets k Return = []
targets k instruction = (k + 1) ∷ []

-- whether the instruction k of a code of this length leads where it may: a jump to a later instruction, a jump back to
-- itself or an earlier one, and no fall past the end
abbrev pub leads_well : ℕ → ℕ → Instruction → Bool
leads_well length k (Jump target) = nat_lt k target && nat_lt target length
leads_well length k (JumpIfZero target) = nat_lt k target && nat_lt target length
leads_well length k (Back b) = nat_le b.target k
leads_well length k Return = true
leads_well length k instruction = nat_lt (k + 1) length

-- CALLS AND PARAMETERS

-- the procedure that an instruction calls, if it does: by CALL, or for the attribute that it reads
abbrev pub called_in : List Entity → Instruction → Option ℕ
called_in es (Call q) = Some q
called_in es (Value sna) = procedure_named (source_of es (as_operand sna))
called_in es instruction = None

-- whether the procedure that is called, if one is, is lower than the procedure n
abbrev pub calls_lower : ℕ → Option ℕ → Bool
calls_lower n None = true
calls_lower n (Some q) = nat_lt q n

-- the parameters that have to be set for a source: the one that it reads, or those that the procedure that it calls needs
abbrev pub asked_by_source : Parts → Operand → List ℕ
asked_by_source p (operands.Parameter q) = q ∷ []
asked_by_source p (operands.Procedure q) = needs_of (procedure_at p q)
asked_by_source p operand = []

-- and for an operand
abbrev pub parameters_asked : Parts → Operand → List ℕ
parameters_asked p o = asked_by_source p (source_of p.entities o)

-- and for an instruction
abbrev pub asks_for : Parts → Instruction → List ℕ
asks_for p (Value sna) = parameters_asked p (as_operand sna)
asks_for p (Call q) = needs_of (procedure_at p q)
asks_for p instruction = []

-- whether a number is among these
abbrev pub is_among : List ℕ → ℕ → Bool
is_among [] x = false
is_among (y ∷ ys) x = x == y || is_among ys x

-- COSTS

-- how often an instruction may jump back
abbrev pub turns : Instruction → ℕ
turns (Back b) = b.count
turns instruction = 0

-- the cost of what is called, by the costs of the procedures below
abbrev pub cost_of_called : List ℕ → Option ℕ → ℕ
cost_of_called costs None = 0
cost_of_called costs (Some q) = at 0 costs q

-- an instruction costs 1, and what it calls
abbrev pub cost_of_instruction : List Entity → List ℕ → Instruction → ℕ
cost_of_instruction es costs i = 1 + cost_of_called costs (called_in es i)

-- the sum of the costs of these instructions
abbrev pub cost_of_body : List Entity → List ℕ → List Instruction → ℕ
cost_of_body es costs [] = 0
cost_of_body es costs (i ∷ code) = cost_of_instruction es costs i + cost_of_body es costs code

-- how often these instructions may jump back in all
abbrev pub turns_of : List Instruction → ℕ
turns_of [] = 0
turns_of (i ∷ code) = turns i + turns_of code

-- code costs the sum of its instructions, once and once more for each jump back
abbrev pub cost_of_code : List Entity → List ℕ → List Instruction → ℕ
cost_of_code es costs code = cost_of_body es costs code * (1 + turns_of code)

-- the costs of these procedures, behind those of the ones before
abbrev pub costs_from : List Entity → List ℕ → List Procedure → List ℕ
costs_from es costs [] = costs
costs_from es costs (pr ∷ prs) = costs_from es (costs ++ cost_of_code es costs pr.code ∷ []) prs

-- the cost of each procedure
abbrev pub costs_of : Parts → List ℕ
costs_of p = costs_from p.entities [] p.procedures
