-- The code of an expression.
use Rattle.std.specs.Prelude.{◌≡◌, List, [], ◌∷◌, ◌++◌, Option, option_map, option_to_list, string_bytes, Vec}
use Rattle.std.specs.Global.{Global}
use Rattle.gw_object.specs.declared.code.Instruction.{Instruction}
use Rattle.gw_object.specs.declared.code.Sna.{Sna}
use Rattle.gw_object.specs.declared.code.Instruction.TheVariants.{Push, Get, Value, Binary, Unary, Call, Return}
use Rattle.gw_text_expressions.specs.declared.model.Expression.{Expression, Row_of-Expression, end_of-Expression, more_of-Expression}
use Rattle.gw_text_expressions.specs.declared.model.Expression.TheVariants.{Whole, Name, Sna as Attribute, Parentheses', Call', Unary', Binary'}
use Rattle.gw_compile.specs.declared.numbering.Callee.{Callee}
use Rattle.gw_compile.specs.declared.numbering.Equ.TheVariants.{Number, Procedure}
use Rattle.gw_compile.specs.declared.locals.Meaning.{Meaning}
use Rattle.gw_compile.specs.declared.locals.Meaning.TheVariants.{Local, Of}
use Rattle.gw_compile.specs.Numbers.{Numbers, Scope, name_meaning}
use Rattle.gw_compile.specs.Attributes.{attribute_in}

-- the instruction for what a bare name stands for
abbrev pub name_instruction : Meaning → Instruction
name_instruction (Local k) = Get k
name_instruction (Of (Number z)) = Push z
name_instruction (Of (Procedure q)) = Call q

-- the instruction for a bare name, if it is known
abbrev pub name_code : Option Meaning → List Instruction
name_code named = option_to_list (option_map name_instruction named)

-- the instruction for an attribute, if what it is of is known
abbrev pub attribute_code : Option Sna → List Instruction
attribute_code sna = option_to_list (option_map Value sna)

-- the instruction for a call, if the PROCEDURE is known
abbrev pub call_code : Option Callee → List Instruction
call_code callee = option_to_list (option_map (λ (c : Callee). Call c.number) callee)

abbrev mutual
  -- the instructions that bring an expression's value onto the stack, by what its names stand for
  pub expression_code : Numbers → Scope → Expression → List Instruction
  expression_code n scope (Whole z) = Push z ∷ []
  expression_code n scope (Name name) = name_code (name_meaning n scope (string_bytes name))
  expression_code n scope (Attribute sna) = attribute_code (attribute_in n sna)
  expression_code n scope (Parentheses' x e) = expression_code n scope e
  expression_code n scope (Unary' operator x a) = expression_code n scope a ++ Unary operator ∷ []
  expression_code n scope (Binary' operator x a y b) = expression_code n scope a ++ (expression_code n scope b ++ Binary operator ∷ [])
  expression_code n scope (Call' name shape es) = expressions_code n scope es ++ call_code (n.procedure (string_bytes name))

  -- and those for arguments, in order
  pub expressions_code : {m : _} → Numbers → Scope → Row_of-Expression m → List Instruction
  expressions_code n scope end_of-Expression = []
  expressions_code n scope (more_of-Expression e es) = expression_code n scope e ++ expressions_code n scope es

-- those of the procedure that an expression becomes
abbrev pub procedure_code : Numbers → Expression → List Instruction
procedure_code n e = expression_code n [] e ++ Return ∷ []

-- this is that code
abbrev pub IsProcedureCode : Numbers → Expression → Vec Instruction Global → Type 0
IsProcedureCode n e code = code.items ≡ procedure_code n e
