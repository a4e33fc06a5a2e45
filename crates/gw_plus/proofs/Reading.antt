-- What may be read of an environment that is lent.
use Rattle.std.proofs.Common.{◌≡◌, ◌≢◌, ℕ, zero, suc, ◌<◌, ℤ, List, [], ◌∷◌, length, Option, Some, None, refl, ap, arith}
use Rattle.std.specs.Prelude.{IfSome}
use Rattle.std.specs.Option.{IsSome, IsSomeAnd}
use Rattle.gw_num.specs.Table.{at}
use Rattle.gw_num.proofs.Tables.{at_some}
use Rattle.gw_object.specs.declared.blocks.EntityAttribute.{EntityAttribute}
use Rattle.gw_object.specs.declared.blocks.EntityAttribute.TheVariants.{FacilityOwned, StorageContent, StorageRemaining, QueueContent, SavevalueValue, SwitchSetting, ChainMembers, VariableValue, BooleanValue, FunctionValue, BlockEntries, BlockCount}
use Rattle.gw_object.specs.declared.blocks.Operand.{Operand}
use Rattle.gw_object.specs.declared.blocks.Operand.TheVariants.{Constant, Parameter, Attribute, OfEntity, Random, Procedure}
use Rattle.gw_object.specs.declared.parts.Entity.{Entity}
use Rattle.gw_object.specs.declared.parts.Kind.{Kind}
use Rattle.gw_object.specs.declared.parts.Parts.{Parts}
use Rattle.gw_rules.specs.Sources.{kind_at}
use Rattle.gw_rules.specs.Kinds.{entity_named}
use Rattle.gw_rules.specs.KindsLaws.{IsEntity}
use Rattle.gw_rules.specs.Environment.{Environment, kept_value}
use Rattle.gw_rules.specs.Meaning.{Frame, Next, Stuck, or_stuck, push_value, reads_source}
use Rattle.gw_rules.proofs.PlusReading.{IsGood}
use Rattle.gw_plus.specs.declared.env.Env.{Env}
use Rattle.gw_plus.specs.Reading.{environment_of, IsOf, MayRead, MayReadKept}

-- PARAMETERS

-- a parameter that is set has a place
pub set_within : (ps : List (Option ℤ)) (k : ℕ) → IsSome (at None ps k) → k < length ps
set_within ps k set = by (at None ps k) refl set
  where
    by : (o : Option ℤ) → at None ps k ≡ o → IsSome o → k < length ps
    by None is set = absurd (cc)
    by (Some v) is set = at_some ps k v is

-- what an activation goes on with is there
given_is_some : (o : Option ℤ) (next : ℤ → Next) → or_stuck o next ≢ Stuck → IsSome o
given_is_some None next moves = absurd (moves refl)
given_is_some (Some v) next moves = refl

-- ATTRIBUTES

-- an entity that is of some kind is there
entity_within : (Is : Kind → Type 0) (es : List Entity) (e : ℕ) → IsSomeAnd (kind_at es e) Is → e < length es
entity_within Is [] e is = absurd is
entity_within Is (x ∷ es) zero is = omega arith
entity_within Is (x ∷ es) (suc e) is = let within = entity_within Is es e is in omega (arith, within)

module _ (p : Parts) (env : Env) (of : IsOf p env) where
  -- an attribute may be read of an entity that is what it needs, and of any block
  pub may_read : (attribute : EntityAttribute) (n : ℕ)
      → IfSome (entity_named (record { attribute = attribute; number = n })) (IsEntity p.entities) → MayRead env attribute n
  may_read FacilityOwned f is = let within = entity_within _ p.entities f is in omega (arith, within, of.facilities)
  may_read StorageContent s is = let within = entity_within _ p.entities s is in omega (arith, within, of.storages)
  may_read StorageRemaining s is = let within = entity_within _ p.entities s is in omega (arith, within, of.storages)
  may_read QueueContent q is = let within = entity_within _ p.entities q is in omega (arith, within, of.queues)
  may_read SavevalueValue x is = let within = entity_within _ p.entities x is in omega (arith, within, of.savevalues)
  may_read SwitchSetting l is = let within = entity_within _ p.entities l is in omega (arith, within, of.switches)
  may_read ChainMembers c is = let within = entity_within _ p.entities c is in omega (arith, within, of.chains)
  may_read VariableValue v is = tt
  may_read BooleanValue v is = tt
  may_read FunctionValue f is = tt
  may_read BlockEntries b is = of.entries b
  may_read BlockCount b is = of.here b

  -- SOURCES

  -- a source that an activation reads without a call may be read
  pub may_read_kept : (source : Operand) (finish : ℤ → ℤ) (f : Frame) → IsGood p source
      → reads_source (environment_of env) source finish f ≢ Stuck → ((q : ℕ) → source ≢ Procedure q) → MayReadKept env source
  may_read_kept (Constant z) finish f good moves none = tt
  may_read_kept (Parameter x) finish f good moves none = given_is_some (at None env.parameters.now.values x) (λ v. push_value (finish v) f) moves
  may_read_kept (Attribute a) finish f good moves none = record { number = of.number; clock = of.clock; mark = of.mark }
  may_read_kept (OfEntity a) finish f good moves none = may_read a.attribute a.number good.holds.entity
  may_read_kept (Random j) finish f good moves none = absurd (moves refl)
  may_read_kept (Procedure q) finish f good moves none = absurd (none q refl)

-- what is made of a value that is kept comes onto the stack
pub kept_read : (env : Environment) (source : Operand) (finish : ℤ → ℤ) (f : Frame) (v : ℤ) → kept_value env source ≡ Some v
    → reads_source env source finish f ≡ push_value (finish v) f
kept_read env (Constant z) finish f v kept = ap (λ o. or_stuck o (λ x. push_value (finish x) f)) kept
kept_read env (Parameter x) finish f v kept = ap (λ o. or_stuck o (λ x. push_value (finish x) f)) kept
kept_read env (Attribute a) finish f v kept = ap (λ o. or_stuck o (λ x. push_value (finish x) f)) kept
kept_read env (OfEntity a) finish f v kept = ap (λ o. or_stuck o (λ x. push_value (finish x) f)) kept
kept_read env (Random j) finish f v kept = absurd (cc)
kept_read env (Procedure q) finish f v kept = absurd (cc)
