-- What is evaluated for an operand in the end: it names what is there, and it isn't evaluated for another one itself.
use Rattle.std.proofs.Common.{◌≡◌, ℕ, zero, suc, List, [], ◌∷◌, Option, Some, None, Bool, true, false, not, refl, sym, ap, ◌∙◌, subst}
use Rattle.std.specs.Prelude.{IfSome, IsTrue, slice_get, unwrap_or, option_to_list}
use Rattle.std.specs.List.{All}
use Rattle.std.specs.Option.{IsSomeAnd}
use Rattle.std.proofs.lemmas.List.Elements.{All-nil, All-cons, All-head, All-tail}
use Rattle.gw_object.specs.declared.code.Sna.{Sna}
use Rattle.gw_object.specs.declared.code.Sna.TheVariants.{Parameter, Attribute, OfEntity}
use Rattle.gw_object.specs.declared.code.Instruction.TheVariants.{Value}
use Rattle.gw_object.specs.declared.code.Procedure.{Procedure}
use Rattle.gw_object.specs.declared.blocks.EntityAttribute.{EntityAttribute}
use Rattle.gw_object.specs.declared.blocks.EntityAttribute.TheVariants.{VariableValue, BooleanValue, FunctionValue}
use Rattle.gw_object.specs.declared.blocks.Numbered.{Numbered}
use Rattle.gw_object.specs.declared.blocks.Operand.{Operand}
use Rattle.gw_object.specs.declared.blocks.Operand.TheVariants as operands
use Rattle.gw_object.specs.declared.blocks.Block.{Block}
use Rattle.gw_object.specs.declared.blocks.Block.TheVariants as blocks
use Rattle.gw_object.specs.declared.parts.Kind.{Kind}
use Rattle.gw_object.specs.declared.parts.Kind.TheVariants as kinds
use Rattle.gw_object.specs.declared.parts.Entity.{Entity}
use Rattle.gw_object.specs.declared.parts.Parts.{Parts}
use Rattle.gw_rules.specs.declared.entities.EntityKind.{EntityKind}
use Rattle.gw_rules.specs.declared.entities.EntityKind.TheVariants.{Variable, BooleanVariable, Function}
use Rattle.gw_rules.specs.Sources.{kind_at, operand_of, operand_at, values, evaluation_operands, if_function, if_variable, argument_in, call_in, source_of, as_operand, procedure_named, is_function_value, is_drawn}
use Rattle.gw_rules.specs.Kinds.{serves_as, has_plain_argument}
use Rattle.gw_rules.specs.KindsLaws.{TakesNoArguments, OperandHolds, EntityHolds, InstructionHolds, BlockHolds}
use Rattle.gw_rules.proofs.EachNamed.{each_names, entities_of_values, blocks_of_values}

-- an attribute whose value is that of another operand: V, BV or FN
abbrev pub is_evaluated : EntityAttribute → Bool
is_evaluated VariableValue = true
is_evaluated BooleanValue = true
is_evaluated FunctionValue = true
is_evaluated attribute = false

-- and an operand that is such an attribute
abbrev pub stands_for_another : Operand → Bool
stands_for_another (operands.OfEntity a) = is_evaluated a.attribute
stands_for_another operand = false

-- what stands in place of a function's value: that holds, and is no function's value
record IsArgument (p : Parts) (o : Operand) : Type 0 where
  holds : OperandHolds p o
  plain : is_function_value o ≡ false

-- what stands in place of an operand that is no function's value: that holds, stands for no other one, and is drawn where the operand is
record IsSource (p : Parts) (from : Operand) (o : Operand) : Type 0 where
  holds : OperandHolds p o
  kept : stands_for_another o ≡ false
  drawn : is_drawn o ≡ is_drawn from

-- an attribute with a number, as an operand
abbrev of_entity : EntityAttribute → ℕ → Operand
of_entity attribute n = operands.OfEntity (record { attribute = attribute; number = n })

is_false : (b : Bool) → not b ≡ true → b ≡ false
is_false true h = absurd (cc)
is_false false h = refl

-- ENTITIES

module _ (p : Parts) where
  -- what holds of the operand of an entity holds of that of an entity by its number
  by_number : (needed : EntityKind) (Is : Option Operand → Type 0)
      → ((kind : Kind) → IsTrue (serves_as needed kind) → IfSome (operand_of kind) (OperandHolds p) → IsTrue (has_plain_argument kind)
      → Is (operand_of kind)) → (es : List Entity) (e : ℕ) → All (EntityHolds p) es
      → IsSomeAnd (kind_at es e) (λ kind. IsTrue (serves_as needed kind)) → Is (operand_at es e)
  by_number needed Is tells [] e each is = absurd is
  by_number needed Is tells (x ∷ es) zero each is =
      let h = All-head (EntityHolds p) x es each in
      tells x.kind is h.operand h.argument
  by_number needed Is tells (x ∷ es) (suc e) each is = by_number needed Is tells es e (All-tail (EntityHolds p) x es each) is

  -- a function is evaluated for its argument
  abbrev IsFunctions : Option Operand → Type 0
  IsFunctions operand = (o : Operand) × (operand ≡ Some o) × IsArgument p o

  of_function : (kind : Kind) → IsTrue (serves_as Function kind) → IfSome (operand_of kind) (OperandHolds p)
      → IsTrue (has_plain_argument kind) → IsFunctions (operand_of kind)
  of_function (kinds.Function f) is h plain = (f.argument, refl, record { holds = h; plain = is_false (is_function_value f.argument) plain })
  of_function kind is h plain = absurd (cc)

  -- a variable is evaluated by a call of its procedure
  abbrev IsVariables : Option Operand → Type 0
  IsVariables operand = (q : ℕ) × (operand ≡ Some (operands.Procedure q)) × OperandHolds p (operands.Procedure q)

  of_variable : (kind : Kind) → IsTrue (serves_as Variable kind) → IfSome (operand_of kind) (OperandHolds p)
      → IsTrue (has_plain_argument kind) → IsVariables (operand_of kind)
  of_variable (kinds.Variable q) is h plain = (q, refl, h)
  of_variable kind is h plain = absurd (cc)

  of_boolean_variable : (kind : Kind) → IsTrue (serves_as BooleanVariable kind) → IfSome (operand_of kind) (OperandHolds p)
      → IsTrue (has_plain_argument kind) → IsVariables (operand_of kind)
  of_boolean_variable (kinds.BooleanVariable q) is h plain = (q, refl, h)
  of_boolean_variable kind is h plain = absurd (cc)

  -- what is evaluated for the entity of a number, if something is, names what is there
  pub operand_at_holds : (es : List Entity) (e : ℕ) → All (EntityHolds p) es → IfSome (operand_at es e) (OperandHolds p)
  operand_at_holds [] e each = tt
  operand_at_holds (x ∷ es) zero each = (All-head (EntityHolds p) x es each).operand
  operand_at_holds (x ∷ es) (suc e) each = operand_at_holds es e (All-tail (EntityHolds p) x es each)

-- VALUES OF BLOCKS AND WHAT CODE READS

-- the values of a block name what is there
pub value_holds : (p : Parts) (b : ℕ) (block : Block) → BlockHolds p b block → All (OperandHolds p) (values block)
value_holds p b block h =
    let entities = entities_of_values p b block h in
    let calls = each_names (TakesNoArguments p) procedure_named (values block) h.procedures in
    let named = blocks_of_values p b block h in
    λ k d below. record { entity = entities k d below; called = calls k d below; block = named k d below }

-- what code reads names what is there
pub read_holds : (p : Parts) (locals : ℕ) (sna : Sna) → InstructionHolds p locals (Value sna) → OperandHolds p (as_operand sna)
read_holds p locals (Parameter q) h = record { entity = tt; called = tt; block = tt }
read_holds p locals (Attribute a) h = record { entity = tt; called = tt; block = tt }
read_holds p locals (OfEntity a) h = record { entity = h.entity; called = tt; block = h.block }

-- SOURCES

module _ (p : Parts) (each : All (EntityHolds p) p.entities) where
  of_attribute : (attribute : EntityAttribute) (n : ℕ) → OperandHolds p (of_entity attribute n)
      → IsArgument p (if_function attribute (unwrap_or (operand_at p.entities n) (of_entity attribute n)) (of_entity attribute n))
  of_attribute FunctionValue n h =
      let one = by_number p Function (IsFunctions p) (of_function p) p.entities n each h.entity in
      subst (λ o. IsArgument p (unwrap_or o (of_entity FunctionValue n))) (sym one.1) one.2
  of_attribute attribute n h = record { holds = h; plain = refl }

  argument_of : (o : Operand) → OperandHolds p o → IsArgument p (argument_in p.entities o)
  argument_of (operands.OfEntity a) h = of_attribute a.attribute a.number h
  argument_of o h = record { holds = h; plain = refl }

  -- a call in place of a variable's value
  called : (attribute : EntityAttribute) (n : ℕ) → IsVariables p (operand_at p.entities n)
      → IsSource p (of_entity attribute n) (unwrap_or (operand_at p.entities n) (of_entity attribute n))
  called attribute n one =
      subst (λ o. IsSource p (of_entity attribute n) (unwrap_or o (of_entity attribute n))) (sym one.1) (record { holds = one.2; kept = refl; drawn = refl })

  of_plain : (attribute : EntityAttribute) (n : ℕ) → OperandHolds p (of_entity attribute n) → is_function_value (of_entity attribute n)
      ≡ false → IsSource p (of_entity attribute n) (if_variable attribute (unwrap_or (operand_at p.entities n) (of_entity attribute n)) (of_entity attribute n))
  of_plain VariableValue n h plain = called VariableValue n (by_number p Variable (IsVariables p) (of_variable p) p.entities n each h.entity)
  of_plain BooleanValue n h plain = called BooleanValue n (by_number p BooleanVariable (IsVariables p) (of_boolean_variable p) p.entities n each h.entity)
  of_plain FunctionValue n h plain = absurd (cc)
  of_plain attribute n h plain = record { holds = h; kept = refl; drawn = refl }

  call_of : (o : Operand) → IsArgument p o → IsSource p o (call_in p.entities o)
  call_of (operands.OfEntity a) h = of_plain a.attribute a.number h.holds h.plain
  call_of o h = record { holds = h.holds; kept = refl; drawn = refl }

  is_source : (o : Operand) → OperandHolds p o → IsSource p (argument_in p.entities o) (source_of p.entities o)
  is_source o h = call_of (argument_in p.entities o) (argument_of o h)

  -- what stands in place of a function's value names what is there
  pub argument_holds : (o : Operand) → OperandHolds p o → OperandHolds p (argument_in p.entities o)
  argument_holds o h = (argument_of o h).holds

  -- and is no function's value
  pub argument_is_plain : (o : Operand) → OperandHolds p o → is_function_value (argument_in p.entities o) ≡ false
  argument_is_plain o h = (argument_of o h).plain

  -- a source names what is there
  pub source_holds : (o : Operand) → OperandHolds p o → OperandHolds p (source_of p.entities o)
  source_holds o h = (is_source o h).holds

  -- a source is neither a variable's nor a function's value
  pub source_is_kept : (o : Operand) → OperandHolds p o → (a : Numbered) → source_of p.entities o ≡ operands.OfEntity a → is_evaluated a.attribute ≡ false
  source_is_kept o h a is = sym (ap stands_for_another is) ∙ (is_source o h).kept

  -- the procedure that a source calls is there, and takes no arguments
  pub source_takes_none : (o : Operand) → OperandHolds p o → (q : ℕ) → procedure_named (source_of p.entities o) ≡ Some q → (pr : Procedure)
      × (slice_get p.procedures q ≡ Some pr) × (pr.arguments ≡ 0)
  source_takes_none o h q is = from_some (slice_get p.procedures q) (subst (λ o. IfSome o (TakesNoArguments p)) is (source_holds o h).called)
    where
      from_some : (o : Option Procedure) → IsSomeAnd o (λ (pr : Procedure). pr.arguments ≡ 0) → (pr : Procedure) × (o ≡ Some pr) × (pr.arguments ≡ 0)
      from_some None h = absurd h
      from_some (Some pr) h = (pr, refl, h)

  -- BLOCKS

  -- what is evaluated when a transaction enters a block names what is there
  pub evaluated_holds : (b : ℕ) (block : Block) → BlockHolds p b block → All (OperandHolds p) (evaluation_operands p.entities block)
  evaluated_holds b (blocks.Tabulate t) h = of_option (operand_at p.entities t) (operand_at_holds p p.entities t each)
    where
      of_option : (o : Option Operand) → IfSome o (OperandHolds p) → All (OperandHolds p) (option_to_list o)
      of_option None h = All-nil (OperandHolds p)
      of_option (Some o) h = All-cons (OperandHolds p) o [] h (All-nil (OperandHolds p))
  evaluated_holds b block h = value_holds p b block h

  -- CODE

  -- the source of what code reads isn't drawn
  pub read_is_not_drawn : (locals : ℕ) (sna : Sna) → InstructionHolds p locals (Value sna) → is_drawn (source_of p.entities (as_operand sna)) ≡ false
  read_is_not_drawn locals sna h =
      (is_source (as_operand sna) (read_holds p locals sna h)).drawn ∙ is_false (is_drawn (argument_in p.entities (as_operand sna))) h.draws
