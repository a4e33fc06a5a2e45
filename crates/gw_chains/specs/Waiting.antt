-- Those who wait: the lists by priority of several entities, each list by the number of its entity.
use Rattle.std.specs.Prelude.{◌<◌, ◌⊎◌, ℕ, List, SomeIndex}
use Rattle.gw_num.specs.Table.{at}
use Rattle.gw_members.specs.declared.tx.Member.{Member}

-- what a contract sees of those who wait: the delay list of each entity, how many more fit on each with no allocation, and to which place of each a walk has
-- come; and the retry list, with its room
pub record Waiting : Type 0 where
  pub lists : List (List Member)
  pub rooms : List ℕ
  pub places : List ℕ
  pub retry : List Member
  pub retry_room : ℕ

-- what a contract sees of one list with a walk over it: its members in order, how many more fit with no allocation, and to which place the walk has come
pub record Walked : Type 0 where
  pub members : List Member
  pub room : ℕ
  pub place : ℕ

-- there is room for fewer than so many more on the retry list, or on the delay list of an entity
abbrev pub LacksRoom : ℕ → Waiting → Type 0
LacksRoom more w = (w.retry_room < more) ⊎ SomeIndex w.lists (λ e. at 0 w.rooms e < more)
