-- What code reads: the sources of its attributes.
use Rattle.std.proofs.Common.{◌≡◌, ℕ, ◌<◌, Option, Some, None, true, false, All, refl, subst, ℤ, arith}
use Rattle.std.proofs.lemmas.Bool.{ltb-true}
use Rattle.std.proofs.lemmas.Bool.Decides.{nat_tests}
use Rattle.std.specs.Prelude.{◌==◌}
use Rattle.gw_num.specs.Table.{at}
use Rattle.gw_object.specs.declared.blocks.Numbered.{Numbered}
use Rattle.gw_object.specs.declared.blocks.Operand.{Operand}
use Rattle.gw_object.specs.declared.blocks.Operand.TheVariants.{Constant, Parameter, Attribute, OfEntity, Random, Procedure as ValueOf}
use Rattle.gw_object.specs.declared.code.Sna.{Sna}
use Rattle.gw_object.specs.declared.code.Instruction.TheVariants.{Value}
use Rattle.gw_object.specs.declared.code.Procedure.{Procedure}
use Rattle.gw_object.specs.declared.parts.Parts.{Parts}
use Rattle.gw_rules.specs.Sources.{source_of, as_operand, is_drawn, procedure_named}
use Rattle.gw_rules.specs.KindsLaws.{OperandHolds, EntityHolds, InstructionHolds}
use Rattle.gw_rules.proofs.Sources.{is_evaluated, source_holds, source_is_kept, source_takes_none, read_holds, read_is_not_drawn}
use Rattle.gw_rules.specs.Code.{procedure_at, needs_of, called_in, calls_lower, asked_by_source, asks_for}
use Rattle.gw_rules.specs.Environment.{Environment}
use Rattle.gw_rules.specs.PlusLaws.{HasSet}

-- the procedure n may call the procedure q without arguments: that one is lower and takes none, and the parameters that it needs are set
pub record MayCall (p : Parts) (env : Environment) (n q : ℕ) : Type 0 where
  pub procedure : Procedure
  pub there : procedure_at p q ≡ Some procedure
  pub none : procedure.arguments ≡ 0
  pub lower : q < n
  pub needs : HasSet env procedure.needs

-- what the procedure n may read: a constant, a parameter that is set, an attribute, an attribute of an entity or a
-- block that is kept, or the value of a procedure that it may call
abbrev pub MayRead : Parts → Environment → ℕ → Operand → Type 0
MayRead p env n (Constant z) = Unit {0}
MayRead p env n (Parameter x) = (v : ℤ) × (at None env.parameters x ≡ Some v)
MayRead p env n (Attribute a) = Unit {0}
MayRead p env n (OfEntity a) = OperandHolds p (OfEntity a) × (is_evaluated a.attribute ≡ false)
MayRead p env n (Random j) = ⊥
MayRead p env n (ValueOf q) = MayCall p env n q

-- what kinds say of a source that code reads: it names what is there, it isn't evaluated for another one itself,
-- nothing is drawn, and the procedure that it calls takes no arguments
pub record IsGood (p : Parts) (source : Operand) : Type 0 where
  pub holds : OperandHolds p source
  pub kept : (a : Numbered) → source ≡ OfEntity a → is_evaluated a.attribute ≡ false
  pub drawn : is_drawn source ≡ false
  pub called : (q : ℕ) → procedure_named source ≡ Some q → (pr : Procedure) × (procedure_at p q ≡ Some pr) × (pr.arguments ≡ 0)

-- the source of an attribute that an instruction names is good
pub source_is_good : (p : Parts) (locals : ℕ) (sna : Sna) → All (EntityHolds p) p.entities → InstructionHolds p locals (Value sna)
    → IsGood p (source_of p.entities (as_operand sna))
source_is_good p locals sna each holds =
    let operand = read_holds p locals sna holds in
    record {
      holds = source_holds p each (as_operand sna) operand;
      kept = source_is_kept p each (as_operand sna) operand;
      drawn = read_is_not_drawn p each locals sna holds;
      called = source_takes_none p each (as_operand sna) operand;
    }

may_read_source : (p : Parts) (env : Environment) (n : ℕ) (source : Operand) → IsGood p source → calls_lower n (procedure_named source)
    ≡ true → HasSet env (asked_by_source p source) → MayRead p env n source
may_read_source p env n (Constant z) good lower set = tt
may_read_source p env n (Parameter x) good lower set = let same : (x == x) ≡ true = grind (arith, nat_tests) in set x (rw same refl)
may_read_source p env n (Attribute a) good lower set = tt
may_read_source p env n (OfEntity a) good lower set = (good.holds, good.kept a refl)
may_read_source p env n (Random j) good lower set = let drawn = good.drawn in absurd (cc)
may_read_source p env n (ValueOf q) good lower set =
    let called = good.called q refl in
    record {
      procedure = called.0;
      there = called.1;
      none = called.2;
      lower = ltb-true q n lower;
      needs = subst (λ (o : Option Procedure). HasSet env (needs_of o)) called.1 set;
    }

-- the procedure n may read the source of an attribute that an instruction of its code names
pub may_read : (p : Parts) (env : Environment) (n locals : ℕ) (sna : Sna) → All (EntityHolds p) p.entities
    → InstructionHolds p locals (Value sna) → calls_lower n (called_in p.entities (Value sna)) ≡ true → HasSet env (asks_for p (Value sna))
    → MayRead p env n (source_of p.entities (as_operand sna))
may_read p env n locals sna each holds lower set =
    may_read_source p env n (source_of p.entities (as_operand sna)) (source_is_good p locals sna each holds) lower set
