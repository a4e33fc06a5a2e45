-- What a contract sees of a machine: what it keeps, and how much more fits with no allocation.
use Rattle.std.specs.Prelude.{ℕ, ℤ, List, Option, Bool}
use Rattle.gw_members.specs.Chain.{Chain}
use Rattle.gw_assemblies.specs.Assembling.{Assembling}
use Rattle.gw_chains.specs.Waiting.{Waiting}
use Rattle.gw_user_chains.specs.Linked.{Linked as UserChains}
use Rattle.gw_members.specs.declared.tx.Tx.{Tx}
use Rattle.gw_members.specs.declared.tx.Member.{Member}
use Rattle.gw_members.specs.declared.tx.Event.{Event}
use Rattle.gw_step.specs.declared.ends.End.{End}
use Rattle.gw_transactions.specs.Transactions.{Population}
use Rattle.gw_machine.specs.declared.entity_tables.EntityTables.{EntityTables}

-- a machine by its parts; members of its lists are given by their handles
pub record Configuration : Type 0 where
  -- in clock units
  pub clock : ℤ
  -- the termination count
  pub count : ℤ
  -- the steps made
  pub steps : ℕ
  -- the streams, from the first on
  pub streams : List ℕ
  -- whether a block was entered since the retry list was last woken
  pub stir : Bool
  -- the arrivals scheduled so far, for each GENERATE block
  pub scheduled : List ℕ
  pub transactions : Population
  -- the greatest number of a parameter that a transaction may have
  pub last : ℕ
  pub active : Option Tx
  pub current_events : Chain Member
  pub future_events : Chain Event
  pub waits : Waiting
  pub assemblies : Assembling
  pub chains : UserChains
  pub entities : EntityTables
  -- the entries so far, for each block
  pub entries : List ℕ
  -- the named end, if one stands
  pub ended : Option End
