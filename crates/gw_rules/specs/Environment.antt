-- What operands and PLUS code may read of the job, and of the transaction that they are evaluated for.
use Rattle.std.specs.Prelude.{◌≡◌, ℕ, ℤ, pos, ◌-ℤ◌, List, Option, Some, None}
use Rattle.gw_num.specs.Table.{at}
use Rattle.gw_object.specs.declared.blocks.Attribute.{Attribute as OwnAttribute}
use Rattle.gw_object.specs.declared.blocks.Attribute.TheVariants.{Clock, AbsoluteClock, Priority, TransitTime, TransactionNumber, TerminationCount}
use Rattle.gw_object.specs.declared.blocks.Numbered.{Numbered}
use Rattle.gw_object.specs.declared.blocks.Operand.{Operand}
use Rattle.gw_object.specs.declared.blocks.Operand.TheVariants.{Constant, Parameter, Attribute, OfEntity, Random, Procedure}

-- what may be read of the job, and of one transaction
pub record Environment : Type 0 where
  -- in clock units
  pub clock : ℤ
  -- the termination count
  pub count : ℤ
  -- the transaction's number, its priority, and the clock time at which it entered the model
  pub number : ℕ
  pub priority : ℤ
  pub mark : ℤ
  -- its parameters by number, as far as they are set
  pub parameters : List (Option ℤ)
  -- the attributes of entities and blocks that are kept
  pub of_entity : Numbered → ℤ

-- an attribute of the clock, the termination count or the transaction
abbrev pub attribute_value : Environment → OwnAttribute → ℤ
attribute_value env Clock = env.clock
attribute_value env AbsoluteClock = env.clock
attribute_value env Priority = env.priority
attribute_value env TransitTime = env.clock -ℤ env.mark
attribute_value env TransactionNumber = pos env.number
attribute_value env TerminationCount = env.count

-- the value of an operand that is kept: there is none of a parameter that isn't set, nor where one is drawn or a procedure is called
abbrev pub kept_value : Environment → Operand → Option ℤ
kept_value env (Constant z) = Some z
kept_value env (Parameter p) = at None env.parameters p
kept_value env (Attribute a) = Some (attribute_value env a)
kept_value env (OfEntity a) = Some (env.of_entity a)
kept_value env (Random j) = None
kept_value env (Procedure q) = None

-- two environments in which each operand that is kept has the same value
pub record ReadTheSame (a b : Environment) : Type 0 where
  pub kept : (o : Operand) → kept_value a o ≡ kept_value b o
