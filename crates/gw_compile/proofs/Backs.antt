-- No expression jumps back.
use Rattle.std.proofs.Common.{◌≡◌, ℕ, ◌+◌, Bool, true, false, if◌then◌else◌, List, [], ◌∷◌, ◌++◌, Option, Some, None, refl, arith}
use Rattle.std.specs.Prelude.{string_bytes}
use Rattle.gw_object.specs.CodeGrammar.{is_back, backs}
use Rattle.gw_object.specs.declared.code.Sna.{Sna}
use Rattle.gw_object.specs.declared.code.Instruction.{Instruction}
use Rattle.gw_object.specs.declared.code.Instruction.TheVariants.{Binary, Unary, Return}
use Rattle.gw_text_expressions.specs.declared.model.Expression.{Expression, Row_of-Expression, end_of-Expression, more_of-Expression}
use Rattle.gw_text_expressions.specs.declared.model.Expression.TheVariants.{Whole, Name, Sna as Attribute, Parentheses', Call', Unary', Binary'}
use Rattle.gw_compile.specs.declared.numbering.Callee.{Callee}
use Rattle.gw_compile.specs.declared.numbering.Equ.TheVariants.{Number, Procedure}
use Rattle.gw_compile.specs.declared.locals.Meaning.{Meaning}
use Rattle.gw_compile.specs.declared.locals.Meaning.TheVariants.{Local, Of}
use Rattle.gw_compile.specs.Numbers.{Numbers, Scope, name_meaning}
use Rattle.gw_compile.specs.Attributes.{attribute_in}
use Rattle.gw_compile.specs.Code.{name_code, attribute_code, call_code, expression_code, expressions_code, procedure_code}

-- one more instruction in front
in_front : (back : Bool) (k m total : ℕ) → total ≡ k + m → (if back then 1 + total else total) ≡ (if back then 1 + k else k) + m
in_front true k m total is = omega arith
in_front false k m total is = is

-- the jumps back of code in two parts
pub backs-append : (a b : List Instruction) → backs (a ++ b) ≡ backs a + backs b
backs-append [] b = omega arith
backs-append (i ∷ a) b = in_front (is_back i) (backs a) (backs b) (backs (a ++ b)) (backs-append a b)

both_none : (a b : List Instruction) → backs a ≡ 0 → backs b ≡ 0 → backs (a ++ b) ≡ 0
both_none a b first second = let e = backs-append a b in omega arith

none_named : (named : Option Meaning) → backs (name_code named) ≡ 0
none_named None = refl
none_named (Some (Local k)) = refl
none_named (Some (Of (Number z))) = refl
none_named (Some (Of (Procedure q))) = refl

none_attribute : (sna : Option Sna) → backs (attribute_code sna) ≡ 0
none_attribute None = refl
none_attribute (Some sna) = refl

none_call : (callee : Option Callee) → backs (call_code callee) ≡ 0
none_call None = refl
none_call (Some c) = refl

mutual
  -- there are none in an expression's code
  pub no_backs : (n : Numbers) (scope : Scope) (e : Expression) → backs (expression_code n scope e) ≡ 0
  no_backs n scope (Whole z) = refl
  no_backs n scope (Name name) = none_named (name_meaning n scope (string_bytes name))
  no_backs n scope (Attribute sna) = none_attribute (attribute_in n sna)
  no_backs n scope (Parentheses' x e) = no_backs n scope e
  no_backs n scope (Unary' operator x a) = both_none (expression_code n scope a) (Unary operator ∷ []) (no_backs n scope a) refl
  no_backs n scope (Binary' operator x a y b) =
      both_none (expression_code n scope a) (expression_code n scope b ++ Binary operator ∷ []) (no_backs n scope a)
      (both_none (expression_code n scope b) (Binary operator ∷ []) (no_backs n scope b) refl)
  no_backs n scope (Call' name shape es) =
      both_none (expressions_code n scope es) (call_code (n.procedure (string_bytes name))) (none_among n scope es)
      (none_call (n.procedure (string_bytes name)))

  none_among : {m : _} (n : Numbers) (scope : Scope) (es : Row_of-Expression m) → backs (expressions_code n scope es) ≡ 0
  none_among n scope end_of-Expression = refl
  none_among n scope (more_of-Expression e es) =
      both_none (expression_code n scope e) (expressions_code n scope es) (no_backs n scope e) (none_among n scope es)

-- nor in that of its procedure
pub none_in_procedure : (n : Numbers) (e : Expression) → backs (procedure_code n e) ≡ 0
none_in_procedure n e = both_none (expression_code n [] e) (Return ∷ []) (no_backs n [] e) refl
