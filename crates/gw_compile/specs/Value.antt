-- The value of an expression, by recursion on its tree: both sides from left to right, or the first named end.
use Rattle.std.specs.Prelude.{ℕ, List, [], ◌∷◌, Option, Some, None, Result, Ok, Err, ℤ, slice_get, string_bytes}
use Rattle.gw_num.specs.declared.arithmetic.NumFault.{NumFault}
use Rattle.gw_num.specs.Operators.{binary_value, unary_value}
use Rattle.gw_num.specs.Table.{at}
use Rattle.gw_object.specs.declared.blocks.Operand.{Operand}
use Rattle.gw_object.specs.declared.blocks.Operand.TheVariants as operands
use Rattle.gw_object.specs.declared.code.Sna.{Sna}
use Rattle.gw_object.specs.declared.parts.Parts.{Parts}
use Rattle.gw_rules.specs.Sources.{source_of, as_operand}
use Rattle.gw_rules.specs.declared.ends.PlusEnd.{PlusEnd}
use Rattle.gw_rules.specs.Environment.{Environment, kept_value}
use Rattle.gw_rules.specs.Code.{procedure_at, costs_of}
use Rattle.gw_rules.specs.Results.{value_by_operand}
use Rattle.gw_rules.specs.Meaning.{ended_by, opening_frame}
use Rattle.gw_rules.specs.Outcome.{answer_within}
use Rattle.gw_text_expressions.specs.declared.model.Expression.{Expression, Row_of-Expression, end_of-Expression, more_of-Expression}
use Rattle.gw_text_expressions.specs.declared.model.Expression.TheVariants.{Whole, Name, Sna as Attribute, Parentheses', Call', Unary', Binary'}
use Rattle.gw_compile.specs.declared.numbering.Callee.{Callee}
use Rattle.gw_compile.specs.declared.numbering.Equ.{Equ}
use Rattle.gw_compile.specs.declared.numbering.Equ.TheVariants.{Number, Procedure}
use Rattle.gw_compile.specs.declared.locals.Meaning.{Meaning}
use Rattle.gw_compile.specs.declared.locals.Meaning.TheVariants.{Local, Of}
use Rattle.gw_compile.specs.Numbers.{Numbers, Scope, name_meaning}
use Rattle.gw_compile.specs.Attributes.{attribute_in}

-- what is come to, if anything is: a value, or a named end
abbrev pub Came : Type 0 → Type 0
Came A = Option (Result A PlusEnd)

-- the first, and then the second with the value of the first
abbrev pub with_value : {A B : Type 0} → Came A → (A → Came B) → Came B
with_value None next = None
with_value (Some (Err e)) next = Some (Err e)
with_value (Some (Ok v)) next = next v

-- a value
abbrev pub comes : {A : Type 0} → A → Came A
comes v = Some (Ok v)

-- what arithmetic answers
abbrev pub arithmetic_value : Result ℤ NumFault → Came ℤ
arithmetic_value (Ok v) = Some (Ok v)
arithmetic_value (Err fault) = Some (Err (ended_by fault))

-- what is there
abbrev pub if_there : Option ℤ → Came ℤ
if_there None = None
if_there (Some v) = Some (Ok v)

-- what a procedure comes to with these arguments, within as many instructions as it costs
unfoldable pub outcome_with : Parts → Environment → ℕ → List ℤ → Came ℤ
outcome_with p env q arguments = answer_within p env (at 0 (costs_of p) q) q (opening_frame (procedure_at p q) arguments)

-- the value of a source that isn't drawn
abbrev pub source_value : Parts → Environment → Operand → Came ℤ
source_value p env (operands.Procedure q) = outcome_with p env q []
source_value p env source = if_there (kept_value env source)

-- the value of an attribute: what it makes of that of its source
abbrev pub sna_value : Parts → Environment → Sna → Came ℤ
sna_value p env sna = with_value (source_value p env (source_of p.entities (as_operand sna))) (λ v. comes (value_by_operand p.entities (as_operand sna) v))

-- the value of an EQU
abbrev pub equ_value : Parts → Environment → Equ → Came ℤ
equ_value p env (Number z) = comes z
equ_value p env (Procedure q) = outcome_with p env q []

-- the value of what a bare name stands for, where the locals have these values; nothing where it isn't known
abbrev pub name_value : Parts → Environment → List ℤ → Option Meaning → Came ℤ
name_value p env locals None = None
name_value p env locals (Some (Local k)) = if_there (slice_get locals k)
name_value p env locals (Some (Of equ)) = equ_value p env equ

-- the value of an attribute, if what it is of is known
abbrev pub attribute_value : Parts → Environment → Option Sna → Came ℤ
attribute_value p env None = None
attribute_value p env (Some sna) = sna_value p env sna

-- what a PROCEDURE comes to with these arguments, if it is known
abbrev pub call_value : Parts → Environment → Option Callee → List ℤ → Came ℤ
call_value p env None vs = None
call_value p env (Some c) vs = outcome_with p env c.number vs

abbrev mutual
  -- the value of an expression, by what its names stand for, where the locals have these values
  pub value_of : Numbers → Scope → Parts → Environment → List ℤ → Expression → Came ℤ
  value_of n scope p env locals (Whole z) = comes z
  value_of n scope p env locals (Name name) = name_value p env locals (name_meaning n scope (string_bytes name))
  value_of n scope p env locals (Attribute sna) = attribute_value p env (attribute_in n sna)
  value_of n scope p env locals (Parentheses' x e) = value_of n scope p env locals e
  value_of n scope p env locals (Unary' operator x a) = with_value (value_of n scope p env locals a) (λ v. arithmetic_value (unary_value operator v))
  value_of n scope p env locals (Binary' operator x a y b) =
      with_value (value_of n scope p env locals a)
      (λ left. with_value (value_of n scope p env locals b) (λ right. arithmetic_value (binary_value operator left right)))
  value_of n scope p env locals (Call' name shape es) =
      with_value (values_of n scope p env locals es) (λ vs. call_value p env (n.procedure (string_bytes name)) vs)

  -- the values of arguments, in order
  pub values_of : {m : _} → Numbers → Scope → Parts → Environment → List ℤ → Row_of-Expression m → Came (List ℤ)
  values_of n scope p env locals end_of-Expression = comes []
  values_of n scope p env locals (more_of-Expression e es) =
      with_value (value_of n scope p env locals e) (λ v. with_value (values_of n scope p env locals es) (λ vs. comes (v ∷ vs)))
