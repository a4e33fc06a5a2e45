-- The user chains of several entities, each chain by the number of its entity.
use Rattle.std.specs.Prelude.{ℕ, List}
use Rattle.gw_members.specs.declared.tx.Tx.{Tx}

-- what a contract sees of the user chains: each chain, and how many more fit on each with no allocation
pub record Linked : Type 0 where
  pub lists : List (List Tx)
  pub rooms : List ℕ
