-- The grammar of PLUS code: which procedures have a spelling, and which bytes spell them.
use Rattle.std.specs.Prelude.{ℕ, ◌+◌, ◌^◌, ◌≤◌, ◌<◌, ◌==◌, ◌&&◌, nat_le, List, [], ◌∷◌, length, Bool, true, false, if◌then◌else◌, IsTrue, Err}
use Rattle.std.specs.List.{All, AllPairs}
use Rattle.std.specs.Int.{w16, w32, w64}
use Rattle.gw_fields.specs.Codes as codes
use Rattle.gw_fields.specs.Fields.{Read, Field, bad, byte, number, signed_number, as_type, both, and_then, number_between, field_that_fits, Form}
use Rattle.gw_fields.specs.Fields.{behind, by_tag, Element, above_last, list_of}
use Rattle.gw_num.specs.declared.operators.Binary.TheVariants.{Power, Multiply, Divide, Remainder, Add, Subtract, Greater, GreaterOrEqual, Less}
use Rattle.gw_num.specs.declared.operators.Binary.TheVariants.{LessOrEqual, Equal, NotEqual, And, Or}
use Rattle.gw_num.specs.declared.operators.Unary.TheVariants.{Negate, Not}
use Rattle.gw_object.specs.Limits.{most_parameters, most_instructions, most_backs, most_locals}
use Rattle.gw_object.specs.BlockGrammar.{parameter_number, attribute, numbered_field, NumberedFits, tag_form}
use Rattle.gw_object.specs.declared.code.Sna.{Sna}
use Rattle.gw_object.specs.declared.code.Sna.TheVariants.{Parameter, Attribute, OfEntity}
use Rattle.gw_object.specs.declared.code.Back.{Back as JumpBack}
use Rattle.gw_object.specs.declared.code.Instruction.{Instruction}
use Rattle.gw_object.specs.declared.code.Instruction.TheVariants.{Push, Get, Set, Value, Binary, Unary, Pop, Jump, JumpIfZero, Back, Call, Return}
use Rattle.gw_object.specs.declared.code.Procedure.{Procedure}

-- ---- attributes

-- what an attribute names fits
abbrev pub SnaFits : Sna → Type 0
SnaFits (Parameter p) = parameter_number.Fits p
SnaFits (Attribute a) = Unit {0}
SnaFits (OfEntity n) = NumberedFits n

-- the tag, as of an operand, and what is behind it
abbrev pub sna_spelling : Sna → List ℕ
sna_spelling (Parameter p) = 1 ∷ parameter_number.spell p
sna_spelling (Attribute a) = 2 ∷ attribute.spell a
sna_spelling (OfEntity n) = 3 ∷ numbered_field.spell n

-- the attributes
abbrev pub sna_forms : List (Form Sna)
sna_forms =
    behind 1 (λ p. Parameter p) parameter_number
    ∷ behind 2 (λ a. Attribute a) attribute
    ∷ behind 3 (λ n. OfEntity n) numbered_field
    ∷ []

-- by its tag; another tag is a fault
unfoldable pub sna_read : List ℕ → Read Sna
sna_read = by_tag sna_forms

-- an attribute
abbrev pub sna : Field Sna
sna = record { spell = sna_spelling; read = sna_read; Fits = SnaFits }

-- ---- instructions

-- the target and the count of a jump back fit
pub record BackFits (b : JumpBack) : Type 0 where
  pub target : b.target < 2 ^ 16
  pub count : b.count < 2 ^ 32

-- the target and the count of a jump back
abbrev pub jump_back : Field JumpBack
jump_back = field_that_fits BackFits
    (as_type (λ (target, count). record { target = target; count = count }) (λ b. (b.target, b.count)) (both (number w16) (number w32)))

-- what an instruction names fits
abbrev pub InstructionFits : Instruction → Type 0
InstructionFits (Push z) = (signed_number w64).Fits z
InstructionFits (Get local) = byte.Fits local
InstructionFits (Set local) = byte.Fits local
InstructionFits (Value a) = SnaFits a
InstructionFits (Jump target) = (number w16).Fits target
InstructionFits (JumpIfZero target) = (number w16).Fits target
InstructionFits (Back b) = BackFits b
InstructionFits (Call procedure) = (number w16).Fits procedure
InstructionFits instruction = Unit {0}

-- the tag, and what is behind it
abbrev pub instruction_spelling : Instruction → List ℕ
instruction_spelling (Push z) = 0 ∷ (signed_number w64).spell z
instruction_spelling (Get local) = 1 ∷ byte.spell local
instruction_spelling (Set local) = 2 ∷ byte.spell local
instruction_spelling (Value a) = 3 ∷ sna_spelling a
instruction_spelling (Binary Add) = 4 ∷ []
instruction_spelling (Binary Subtract) = 5 ∷ []
instruction_spelling (Binary Multiply) = 6 ∷ []
instruction_spelling (Binary Divide) = 7 ∷ []
instruction_spelling (Binary Remainder) = 8 ∷ []
instruction_spelling (Binary Power) = 9 ∷ []
instruction_spelling (Unary Negate) = 10 ∷ []
instruction_spelling (Binary Equal) = 11 ∷ []
instruction_spelling (Binary NotEqual) = 12 ∷ []
instruction_spelling (Binary Greater) = 13 ∷ []
instruction_spelling (Binary GreaterOrEqual) = 14 ∷ []
instruction_spelling (Binary Less) = 15 ∷ []
instruction_spelling (Binary LessOrEqual) = 16 ∷ []
instruction_spelling (Binary And) = 17 ∷ []
instruction_spelling (Binary Or) = 18 ∷ []
instruction_spelling (Unary Not) = 19 ∷ []
instruction_spelling Pop = 20 ∷ []
instruction_spelling (Jump target) = 21 ∷ (number w16).spell target
instruction_spelling (JumpIfZero target) = 22 ∷ (number w16).spell target
instruction_spelling (Back b) = 23 ∷ jump_back.spell b
instruction_spelling (Call procedure) = 24 ∷ (number w16).spell procedure
instruction_spelling Return = 25 ∷ []

-- the instructions
abbrev pub instruction_forms : List (Form Instruction)
instruction_forms =
    behind 0 (λ z. Push z) (signed_number w64)
    ∷ behind 1 (λ local. Get local) byte
    ∷ behind 2 (λ local. Set local) byte
    ∷ behind 3 (λ a. Value a) sna
    ∷ tag_form 4 (Binary Add)
    ∷ tag_form 5 (Binary Subtract)
    ∷ tag_form 6 (Binary Multiply)
    ∷ tag_form 7 (Binary Divide)
    ∷ tag_form 8 (Binary Remainder)
    ∷ tag_form 9 (Binary Power)
    ∷ tag_form 10 (Unary Negate)
    ∷ tag_form 11 (Binary Equal)
    ∷ tag_form 12 (Binary NotEqual)
    ∷ tag_form 13 (Binary Greater)
    ∷ tag_form 14 (Binary GreaterOrEqual)
    ∷ tag_form 15 (Binary Less)
    ∷ tag_form 16 (Binary LessOrEqual)
    ∷ tag_form 17 (Binary And)
    ∷ tag_form 18 (Binary Or)
    ∷ tag_form 19 (Unary Not)
    ∷ tag_form 20 Pop
    ∷ behind 21 (λ target. Jump target) (number w16)
    ∷ behind 22 (λ target. JumpIfZero target) (number w16)
    ∷ behind 23 (λ b. Back b) jump_back
    ∷ behind 24 (λ procedure. Call procedure) (number w16)
    ∷ tag_form 25 Return
    ∷ []

-- by its tag; another tag is a fault
unfoldable pub instruction_read : List ℕ → Read Instruction
instruction_read = by_tag instruction_forms

-- an instruction
abbrev pub instruction : Field Instruction
instruction = record { spell = instruction_spelling; read = instruction_read; Fits = InstructionFits }

-- ---- code

-- whether an instruction is a BACK
abbrev pub is_back : Instruction → Bool
is_back (Back b) = true
is_back other = false

-- how many BACKs there are
abbrev pub backs : List Instruction → ℕ
backs [] = 0
backs (i ∷ code) = if is_back i then 1 + backs code else backs code

-- the bytes begin with the tag of a BACK
abbrev pub begins_with_back : List ℕ → Bool
begins_with_back [] = false
begins_with_back (tag ∷ rest) = tag == 23

-- an instruction behind others: a BACK too many is a fault of its first byte
abbrev pub next_instruction : Element Instruction
next_instruction = record {
  spell = instruction_spelling;
  read = λ front left bytes. if nat_le most_backs (backs front) && begins_with_back bytes then Err (bad codes.limit bytes) else instruction_read bytes;
  Fits = λ front left i. InstructionFits i × (IsTrue (is_back i) → backs front < most_backs);
}

-- ---- procedures

-- a parameter that is needed, above the one before it
abbrev pub need : Element ℕ
need = above_last parameter_number

-- the number of arguments and the number of locals, at least as many and no more than there may be
abbrev pub counts : Field (ℕ × ℕ)
counts = and_then byte (λ arguments. number_between arguments most_locals byte)

-- a procedure keeps its limits
pub record ProcedureFits (p : Procedure) : Type 0 where
  pub arguments : p.arguments ≤ p.locals
  pub locals : p.locals ≤ most_locals
  pub needs : length p.needs ≤ most_parameters
  pub each_need : All parameter_number.Fits p.needs
  pub code : length p.code ≤ most_instructions
  pub each_instruction : All InstructionFits p.code
  pub backs : backs p.code ≤ most_backs

-- the parameters that a procedure needs ascend
abbrev pub NeedsAscend : Procedure → Type 0
NeedsAscend p = AllPairs (λ a b. a < b) p.needs

-- the counts, the parameters that are needed, and the code
unfoldable pub procedure : Field Procedure
procedure = field_that_fits (λ p. ProcedureFits p × NeedsAscend p) (as_type
    (λ (counts, (needs, code)). record { arguments = counts.0; locals = counts.1; needs = needs; code = code })
    (λ p. ((p.arguments, p.locals), (p.needs, p.code)))
    (both counts (both (list_of 0 most_parameters need) (list_of 0 most_instructions next_instruction))))
