-- An object with another version, and other weights and slopes: PLUS code and expressions come to what they came to.
use Rattle.std.proofs.Common.{◌≡◌, ℕ, zero, suc, ℤ, List, [], ◌∷◌, Option, Some, None, Ok, Err, refl, sym, ap, ◌∙◌}
use Rattle.std.specs.Option.{option_and_then}
use Rattle.std.specs.Prelude.{slice_get, string_bytes}
use Rattle.gw_num.specs.Operators.{binary_value, unary_value}
use Rattle.gw_num.specs.Table.{at}
use Rattle.gw_object.specs.declared.blocks.Operand.{Operand}
use Rattle.gw_object.specs.declared.blocks.Operand.TheVariants as operands
use Rattle.gw_object.specs.declared.code.Instruction.{Instruction}
use Rattle.gw_object.specs.declared.code.Instruction.TheVariants as instructions
use Rattle.gw_object.specs.declared.code.Procedure.{Procedure}
use Rattle.gw_object.specs.declared.code.Sna.{Sna}
use Rattle.gw_object.specs.declared.parts.Kind.{Kind}
use Rattle.gw_object.specs.declared.parts.Parts.{Parts}
use Rattle.gw_rules.specs.Code.{procedure_at, costs_of}
use Rattle.gw_rules.specs.Environment.{Environment}
use Rattle.gw_rules.specs.Meaning.{Frame, Next, Goes, Calls, or_stuck, push_value, opening_frame, act, next}
use Rattle.gw_rules.specs.Outcome.{Answer, if_going, once_called, answer_by, answer_within, outcome_of}
use Rattle.gw_rules.specs.Results.{value_by_operand}
use Rattle.gw_rules.specs.Sources.{source_of, as_operand}
use Rattle.gw_text.specs.declared.model.Statement.{Statement}
use Rattle.gw_text_expressions.specs.declared.model.Expression.{Expression, Row_of-Expression, end_of-Expression, more_of-Expression}
use Rattle.gw_text_expressions.specs.declared.model.Expression.TheVariants.{Whole, Name, Sna as Attribute, Parentheses', Call', Unary', Binary'}
use Rattle.gw_compile.specs.declared.numbering.Callee.{Callee}
use Rattle.gw_compile.specs.declared.numbering.Equ.{Equ}
use Rattle.gw_compile.specs.declared.numbering.Equ.TheVariants as equs
use Rattle.gw_compile.specs.Numbers.{Numbers, Scope, number_of, meaning_by}
use Rattle.gw_compile.specs.Attributes.{attribute_in}
use Rattle.gw_compile.specs.Value.{Came, with_value, comes, arithmetic_value, outcome_with, source_value, equ_value, name_value, attribute_value}
use Rattle.gw_compile.specs.Value.{call_value, value_of, values_of}
use Rattle.gw_pieces.specs.Pieces.{Computes, IsEvaluated, AllCompute}

-- STEPS

module _ (onward other : ℕ → Frame → Answer) (same : (n : ℕ) (f : Frame) → onward n f ≡ other n f) where
  going_same : (n : ℕ) (x : Next) → if_going (onward n) x ≡ if_going (other n) x
  going_same n (Goes f) = same n f
  going_same n x = refl

  called_same : (n : ℕ) (finish : ℤ → ℤ) (rest : Frame) (r : Answer) → option_and_then (once_called (onward n) finish rest) r
      ≡ option_and_then (once_called (other n) finish rest) r
  called_same n finish rest None = refl
  called_same n finish rest (Some (Err e)) = refl
  called_same n finish rest (Some (Ok v)) = going_same n (push_value (finish v) rest)

  by_same : (p : Parts) (n : ℕ) (x : Next) → answer_by p onward n x ≡ answer_by p other n x
  by_same p n (Goes f) = same n f
  by_same p n (Calls c arguments finish rest) =
      ap (option_and_then (once_called (onward n) finish rest)) (same c (opening_frame (procedure_at p c) arguments))
      ∙ called_same n finish rest (other c (opening_frame (procedure_at p c) arguments))
  by_same p n x = refl

then_same : {A B : Type 0} (c : Came A) (f g : A → Came B) → ((v : A) → f v ≡ g v) → with_value c f ≡ with_value c g
then_same None f g same = refl
then_same (Some (Err e)) f g same = refl
then_same (Some (Ok v)) f g same = same v

-- two values, one after the other
both_same : {A B : Type 0} (c d : Came A) (f g : A → Came B) → c ≡ d → ((v : A) → f v ≡ g v) → with_value c f ≡ with_value d g
both_same c d f g same next = ap (λ x. with_value x f) same ∙ then_same d f g next

module _ (p : Parts) (version : ℕ) (weights : List ℕ) (slopes : List (Option (ℕ × ℕ))) (chains : List ℕ) where
  abbrev q : Parts
  q = record p { version = version; weights = weights; slopes = slopes; chain_weights = chains }

  -- PLUS CODE

  act_same : (env : Environment) (i : Instruction) (f : Frame) → act q env i f ≡ act p env i f
  unfolding act
  act_same env (instructions.Value sna) f = refl
  act_same env (instructions.Call n) f = refl
  act_same env i f = refl

  instruction_same : (env : Environment) (f : Frame) (o : Option Instruction) → or_stuck o (λ i. act q env i f) ≡ or_stuck o (λ i. act p env i f)
  instruction_same env f None = refl
  instruction_same env f (Some i) = act_same env i f

  procedure_same : (env : Environment) (f : Frame) (o : Option Procedure)
      → or_stuck o (λ pr. or_stuck (slice_get pr.code f.place) (λ i. act q env i f))
      ≡ or_stuck o (λ pr. or_stuck (slice_get pr.code f.place) (λ i. act p env i f))
  procedure_same env f None = refl
  procedure_same env f (Some pr) = instruction_same env f (slice_get pr.code f.place)

  next_same : (env : Environment) (n : ℕ) (f : Frame) → next q env n f ≡ next p env n f
  unfolding next
  next_same env n f = procedure_same env f (procedure_at p n)

  same_by : (onward : ℕ → Frame → Answer) (n : ℕ) (x : Next) → answer_by q onward n x ≡ answer_by p onward n x
  same_by onward n (Calls c arguments finish rest) = refl
  same_by onward n x = refl

  within_same : (env : Environment) (most n : ℕ) (f : Frame) → answer_within q env most n f ≡ answer_within p env most n f
  unfolding answer_within
  within_same env zero n f = refl
  within_same env (suc most) n f =
      ap (answer_by q (answer_within q env most) n) (next_same env n f)
      ∙ by_same (answer_within q env most) (answer_within p env most) (within_same env most) q n (next p env n f)
      ∙ same_by (answer_within p env most) n (next p env n f)

  outcome_same : (env : Environment) (n : ℕ) → outcome_of q env n ≡ outcome_of p env n
  unfolding outcome_of
  outcome_same env n = within_same env (at 0 (costs_of p) n) n (opening_frame (procedure_at p n) [])

  with_same : (env : Environment) (n : ℕ) (arguments : List ℤ) → outcome_with q env n arguments ≡ outcome_with p env n arguments
  unfolding outcome_with
  with_same env n arguments = within_same env (at 0 (costs_of p) n) n (opening_frame (procedure_at p n) arguments)

  -- EXPRESSIONS

  source_same : (env : Environment) (o : Operand) → source_value q env o ≡ source_value p env o
  source_same env (operands.Procedure n) = with_same env n []
  source_same env o = refl

  attribute_same : (env : Environment) (o : Option Sna) → attribute_value q env o ≡ attribute_value p env o
  attribute_same env None = refl
  attribute_same env (Some sna) =
      ap (λ c. with_value c (λ v. comes (value_by_operand p.entities (as_operand sna) v))) (source_same env (source_of p.entities (as_operand sna)))

  equ_same : (env : Environment) (equ : Equ) → equ_value q env equ ≡ equ_value p env equ
  equ_same env (equs.Number z) = refl
  equ_same env (equs.Procedure n) = with_same env n []

  name_same : (env : Environment) (locals : List ℤ) (local : Option ℕ) (equ : Option Equ) → name_value q env locals (meaning_by local equ)
      ≡ name_value p env locals (meaning_by local equ)
  name_same env locals (Some k) equ = refl
  name_same env locals None None = refl
  name_same env locals None (Some equ) = equ_same env equ

  call_same : (env : Environment) (c : Option Callee) (vs : List ℤ) → call_value q env c vs ≡ call_value p env c vs
  call_same env None vs = refl
  call_same env (Some c) vs = with_same env c.number vs

  module _ (n : Numbers) (scope : Scope) (env : Environment) (locals : List ℤ) where
    mutual
      value_same : (e : Expression) → value_of n scope q env locals e ≡ value_of n scope p env locals e
      value_same (Whole z) = refl
      value_same (Name name) = name_same env locals (number_of scope (string_bytes name)) (n.equ (string_bytes name))
      value_same (Attribute sna) = attribute_same env (attribute_in n sna)
      value_same (Parentheses' x e) = value_same e
      value_same (Unary' operator x a) = ap (λ c. with_value c (λ v. arithmetic_value (unary_value operator v))) (value_same a)
      value_same (Binary' operator x a y b) =
          both_same (value_of n scope q env locals a) (value_of n scope p env locals a)
          (λ left. with_value (value_of n scope q env locals b) (λ right. arithmetic_value (binary_value operator left right)))
          (λ left. with_value (value_of n scope p env locals b) (λ right. arithmetic_value (binary_value operator left right)))
          (value_same a)
          (λ left. ap (λ c. with_value c (λ right. arithmetic_value (binary_value operator left right))) (value_same b))
      value_same (Call' name shape es) =
          both_same (values_of n scope q env locals es) (values_of n scope p env locals es)
          (λ vs. call_value q env (n.procedure (string_bytes name)) vs)
          (λ vs. call_value p env (n.procedure (string_bytes name)) vs)
          (values_same es)
          (call_same env (n.procedure (string_bytes name)))

      values_same : {m : _} (es : Row_of-Expression m) → values_of n scope q env locals es ≡ values_of n scope p env locals es
      values_same end_of-Expression = refl
      values_same (more_of-Expression e es) =
          both_same (value_of n scope q env locals e) (value_of n scope p env locals e)
          (λ v. with_value (values_of n scope q env locals es) (λ vs. comes (v ∷ vs)))
          (λ v. with_value (values_of n scope p env locals es) (λ vs. comes (v ∷ vs)))
          (value_same e)
          (λ v. ap (λ c. with_value c (λ vs. comes (v ∷ vs))) (values_same es))

  -- PROCEDURES

  computes_same : (n : Numbers) (e : Expression) (number : ℕ) → Computes n p e number → Computes n q e number
  computes_same n e number c =
      record { procedure = c.procedure; there = c.there; value = λ env set. outcome_same env number ∙ c.value env set ∙ sym (value_same n [] env [] e) }

  evaluated_same : (n : Numbers) (e : Expression) (by : ℕ → Kind → Type 0) (kind : Kind) → IsEvaluated n p e by kind → IsEvaluated n q e by kind
  evaluated_same n e by kind v = record { number = v.number; kind_is = v.kind_is; computes = computes_same n e v.number v.computes }

  pub all_same : (n : Numbers) (order : _) (ss : List Statement) → AllCompute n order ss p → AllCompute n order ss q
  all_same n order ss h = record {
    operands = λ i s k e number is there has. computes_same n e number (h.operands i s k e number is there has);
    variables = λ i s e kind source is word there made. evaluated_same n e _ kind (h.variables i s e kind source is word there made);
    boolean_variables = λ i s e kind source is word there made. evaluated_same n e _ kind (h.boolean_variables i s e kind source is word there made);
    tables = λ i s e kind source is word there made. evaluated_same n e _ kind (h.tables i s e kind source is word there made);
    functions = λ i s e kind source is word there made. evaluated_same n e _ kind (h.functions i s e kind source is word there made);
    equations = λ name number is. let equation = h.equations name number is in
        record {
          equ = equation.equ;
          expression = equation.expression;
          there = equation.there;
          computes =
              computes_same n equation.expression number equation.computes;
        };
  }
