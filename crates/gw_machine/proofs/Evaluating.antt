-- What evaluations come to.
use Rattle.std.proofs.Common.{◌≡◌, ◌≢◌, ℕ, suc, zero, ◌-◌, ◌%◌, ◌<◌, ◌==◌, pos, ℤ, List, [], ◌∷◌, length, get_or, Option, Some, None, Result, Ok, Err}
use Rattle.std.proofs.Common.{true, option_map, refl, sym, ap, ◌∙◌, arith}
use Rattle.std.specs.Prelude.{slice_set, unwrap_or, IfSome}
use Rattle.std.specs.List.{All}
use Rattle.std.specs.Option.{option_map_or, option_flatten, IsSomeAnd}
use Rattle.std.proofs.lemmas.Bool.Decides.{nat_tests}
use Rattle.std.proofs.lemmas.List.Elements.{All-head, All-tail}
use Rattle.gw_num.specs.Table.{at}
use Rattle.gw_num.proofs.Tables.{at-replicate, at-get_or_any}
use Rattle.gw_num.specs.Generator.{next_after}
use Rattle.gw_object.specs.BlockGrammar.{OperandFits}
use Rattle.gw_object.specs.declared.blocks.EntityAttribute.{EntityAttribute}
use Rattle.gw_object.specs.declared.blocks.EntityAttribute.TheVariants.{VariableValue, BooleanValue, FunctionValue}
use Rattle.gw_object.specs.declared.blocks.Operand.{Operand}
use Rattle.gw_object.specs.declared.blocks.Operand.TheVariants.{Constant, Parameter, Attribute, OfEntity, Random, Procedure}
use Rattle.gw_object.specs.declared.code.Procedure.{Procedure as Code}
use Rattle.gw_object.specs.Entities.{EntityFits, KindFits}
use Rattle.gw_object.specs.Grammar.{HasSpelling}
use Rattle.gw_object.specs.declared.parts.Entity.{Entity}
use Rattle.gw_object.specs.declared.parts.Kind.{Kind}
use Rattle.gw_object.specs.declared.parts.Kind.TheVariants as kinds
use Rattle.gw_object.specs.declared.parts.Parts.{Parts}
use Rattle.gw_rules.specs.Sources.{operand_of, operand_at, if_function, if_variable, argument_in, call_in, source_of}
use Rattle.gw_rules.specs.KindsLaws.{OperandHolds}
use Rattle.gw_rules.specs.declared.ends.PlusEnd.{PlusEnd}
use Rattle.gw_rules.specs.Code.{procedure_at, asked_by_source}
use Rattle.gw_rules.specs.Environment.{Environment, kept_value, ReadTheSame}
use Rattle.gw_rules.specs.PlusLaws.{HasSet, MayBegin}
use Rattle.gw_rules.specs.Meaning.{Evaluates, opening_frame}
use Rattle.gw_rules.specs.Outcome.{outcome_of}
use Rattle.gw_rules.proofs.PlusTheorems.{one_outcome_law, outcomes_are_evaluated_law}
use Rattle.gw_rules.proofs.Within.{outcomes_depend_on_what_is_kept}
use Rattle.gw_rules.specs.Values.{Value, ◌>>=◌, drawn_below, came_to, if_set, source_value}
use Rattle.gw_rules.specs.Accepted.{Checked}
use Rattle.gw_rules.proofs.AllPass.{kinds_pass, plus_passes}
use Rattle.gw_plus.specs.declared.env.Env.{Env}
use Rattle.gw_plus.specs.Reading as lent
use Rattle.gw_plus.proofs.Reading.{may_read}
use Rattle.gw_transactions.specs.Transactions.{LiveTransaction, parameter_at}
use Rattle.gw_transactions.specs.Parameters.{no_parameters}
use Rattle.gw_step.specs.State.{State}
use Rattle.gw_step.specs.Times.{parameters_of}
use Rattle.gw_machine.specs.Evaluating.{value_outcome}

-- PARAMETERS

-- a parameter as the machine reads it
pub parameter-read : (n k : ℕ) (s : State) → parameter_at n k s.transactions ≡ at None (parameters_of n s) k
parameter-read n k s = by (at None s.transactions n)
  where
    by : (o : Option LiveTransaction) → option_flatten (option_map (λ (t : LiveTransaction). at None t.parameters k) o)
        ≡ at None (option_map_or (λ (t : LiveTransaction). t.parameters) o no_parameters) k
    by None = sym (at-replicate None 65 k)
    by (Some t) = refl

-- STREAMS

-- what the machine draws
pub below-drawn : (bound j : ℕ) (streams : List ℕ) (d drawn moved : ℕ) → j - 1 < length streams
    → drawn ≡ next_after (get_or streams (j - 1) d) % bound → moved ≡ next_after (get_or streams (j - 1) d) → drawn_below bound j streams
    ≡ (pos drawn, slice_set streams (j - 1) moved)
below-drawn bound j streams d drawn moved within is m =
    let x = get_or streams (j - 1) d in
    ap (λ (y : ℕ). (pos (next_after y % bound), slice_set streams (j - 1) (next_after y))) (at-get_or_any 1 d streams (j - 1) within)
    ∙ ap (λ (y : ℕ). (pos (next_after x % bound), slice_set streams (j - 1) y)) (sym m)
    ∙ ap (λ (y : ℕ). (pos y, slice_set streams (j - 1) moved)) (sym is)

-- SOURCES KEEP THE FORMAT

-- what is evaluated for an entity keeps the format
of_kind : (kind : Kind) → KindFits kind → IfSome (operand_of kind) OperandFits
of_kind (kinds.Table t) h = h.argument
of_kind (kinds.Variable q) h = h
of_kind (kinds.BooleanVariable q) h = h
of_kind (kinds.Function f) h = h.argument
of_kind kind h = tt

at_number : (es : List Entity) (e : ℕ) → All EntityFits es → IfSome (operand_at es e) OperandFits
at_number [] e each = tt
at_number (x ∷ es) zero each = of_kind x.kind (All-head EntityFits x es each).kind
at_number (x ∷ es) (suc e) each = at_number es e (All-tail EntityFits x es each)

or_other : (o : Option Operand) (other : Operand) → IfSome o OperandFits → OperandFits other → OperandFits (unwrap_or o other)
or_other None other h k = k
or_other (Some o) other h k = h

function_fits : (attribute : EntityAttribute) (argument other : Operand) → OperandFits argument → OperandFits other
    → OperandFits (if_function attribute argument other)
function_fits FunctionValue argument other h k = h
function_fits attribute argument other h k = k

variable_fits : (attribute : EntityAttribute) (call other : Operand) → OperandFits call → OperandFits other → OperandFits (if_variable attribute call other)
variable_fits VariableValue call other h k = h
variable_fits BooleanValue call other h k = h
variable_fits attribute call other h k = k

module _ (es : List Entity) (each : All EntityFits es) where
  argument_fits : (o : Operand) → OperandFits o → OperandFits (argument_in es o)
  argument_fits (OfEntity a) h = function_fits a.attribute _ (OfEntity a) (or_other (operand_at es a.number) (OfEntity a) (at_number es a.number each) h) h
  argument_fits o h = h

  call_fits : (o : Operand) → OperandFits o → OperandFits (call_in es o)
  call_fits (OfEntity a) h = variable_fits a.attribute _ (OfEntity a) (or_other (operand_at es a.number) (OfEntity a) (at_number es a.number each) h) h
  call_fits o h = h

  -- what is evaluated for an operand in the end keeps the format
  pub source_fits : (o : Operand) → OperandFits o → OperandFits (source_of es o)
  source_fits o h = call_fits (argument_in es o) (argument_fits o h)

-- WHAT MAY BE READ

module _ (p : Parts) (env : Env) (a : Environment) (same : ReadTheSame (lent.environment_of env) a) where
  -- parameters that are set are set where the same is read
  set_same : (xs : List ℕ) → HasSet a xs → HasSet (lent.environment_of env) xs
  set_same xs set x among = let s = set x among in (s.0, same.kept (Parameter x) ∙ s.1)

  -- a procedure may be evaluated that kinds let an operand call, and whose parameters are set
  pub can_evaluate : (q : ℕ) → OperandHolds p (Procedure q) → HasSet a (asked_by_source p (Procedure q)) → lent.CanEvaluate p (lent.environment_of env) q
  can_evaluate q holds set = by (procedure_at p q) refl holds.called
    where
      by : (o : Option Code) → procedure_at p q ≡ o → IsSomeAnd o (λ (pr : Code). pr.arguments ≡ 0) → lent.CanEvaluate p (lent.environment_of env) q
      by None is h = absurd h
      by (Some pr) is h = (pr, is, h, set_same pr.needs (rw is at set))

  -- what is kept may be read, where kinds hold and a parameter that is read is set
  pub may_read_kept : lent.IsOf p env → (o : Operand) → OperandHolds p o → HasSet a (asked_by_source p o) → ((j : ℕ) → o ≢ Random j)
      → ((q : ℕ) → o ≢ Procedure q) → lent.MayReadKept env o
  may_read_kept of (Constant z) holds set not_drawn not_called = tt
  may_read_kept of (Parameter x) holds set not_drawn not_called =
      let among : (x == x) ≡ true = grind (arith, nat_tests) in
      let s = set_same (x ∷ []) set x (rw among refl) in
      rw s.1 refl
  may_read_kept of (Attribute attribute) holds set not_drawn not_called = record { number = of.number; clock = of.clock; mark = of.mark }
  may_read_kept of (OfEntity of_entity) holds set not_drawn not_called = may_read p env of of_entity.attribute of_entity.number holds.entity
  may_read_kept of (Random j) holds set not_drawn not_called = absurd (not_drawn j refl)
  may_read_kept of (Procedure q) holds set not_drawn not_called = absurd (not_called q refl)

  -- WHAT SOURCES COME TO

  -- what a procedure comes to
  pub procedure-value : HasSpelling p → Checked p → (bound q : ℕ) (streams : List ℕ) (r : Result ℤ PlusEnd)
      → lent.CanEvaluate p (lent.environment_of env) q → Evaluates p (lent.environment_of env) q [] r
      → source_value p a bound (Procedure q) streams ≡ value_outcome r streams
  procedure-value fits checked bound q streams r can evaluated =
      let may : MayBegin p (lent.environment_of env) q can.0 [] = record { there = can.1; arguments = sym can.2; needs = can.3 } in
      let one = outcomes_are_evaluated_law p (lent.environment_of env) q can.0 fits (kinds_pass p checked) (plus_passes p checked) may in
      let is = (one_outcome_law p (lent.environment_of env) q (opening_frame (procedure_at p q) []) one.2.0 evaluated.0 one.0 r one.2.1 evaluated.1).1 in
      let outcome : outcome_of p a q ≡ Some r = sym (outcomes_depend_on_what_is_kept p (lent.environment_of env) a q same) ∙ one.1 ∙ ap Some is in
      ap (λ answer. came_to answer >>= λ value. Value (value, streams)) outcome ∙ came r
    where
      came : (r : Result ℤ PlusEnd) → (came_to (Some r) >>= λ value. Value (value, streams)) ≡ value_outcome r streams
      came (Ok value) = refl
      came (Err end) = refl

  -- what is kept
  pub kept-value : (bound : ℕ) (o : Operand) (streams : List ℕ) (value : ℤ) → kept_value (lent.environment_of env) o ≡ Some value
      → ((j : ℕ) → o ≢ Random j) → ((q : ℕ) → o ≢ Procedure q) → source_value p a bound o streams ≡ value_outcome (Ok value) streams
  kept-value bound (Random j) streams value is not_drawn not_called = absurd (not_drawn j refl)
  kept-value bound (Procedure q) streams value is not_drawn not_called = absurd (not_called q refl)
  kept-value bound o streams value is not_drawn not_called = ap (λ v. if_set v >>= λ x. Value (x, streams)) (sym (same.kept o) ∙ is)
