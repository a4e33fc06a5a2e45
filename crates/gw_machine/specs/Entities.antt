-- What entities become, and what may be counted of them.
use Rattle.std.specs.Prelude.{ℕ, ◌+◌, ◌^◌, ◌≤◌, ◌<◌, length, List, Bool}
use Rattle.std.specs.Option.{option_map_or}
use Rattle.gw_object.specs.declared.blocks.Block.{Block}
use Rattle.gw_object.specs.declared.blocks.Units.{Units}
use Rattle.gw_entities.specs.declared.contents.Contents.{Contents}
use Rattle.gw_entities.specs.declared.facilities.Facility.{Facility}
use Rattle.gw_entities.specs.declared.storages.Storage.{Storage}
use Rattle.gw_entities.specs.Facility.{idle, with_owner}
use Rattle.gw_entities.specs.Storage.{vacant}
use Rattle.gw_machine.specs.Configuration.{Configuration}
use Rattle.gw_machine.specs.View.{entity_count}
use Rattle.gw_num.specs.Table.{at}
use Rattle.gw_step.specs.Blocks.{takes_over}
use Rattle.gw_step.specs.Changes.{called_from, enters_and_falls, facility, put_facility, put_queue, put_storage, put_switch, queue, storage, switch}
use Rattle.gw_step.specs.State.{State}
use Rattle.gw_transactions.specs.Transactions.{attributes_at}
use Rattle.gw_transactions.specs.declared.Transaction.{Transaction}

-- a facility, a storage, a queue and a logic switch as this makes them, in a state
abbrev pub facility_by : (Facility → Facility) → ℕ → State → State
facility_by change f s = put_facility f (change (facility f s)) s

abbrev pub storage_by : (Storage → Storage) → ℕ → State → State
storage_by change e s = put_storage e (change (storage e s)) s

abbrev pub queue_by : (Contents → Contents) → ℕ → State → State
queue_by change q s = put_queue q (change (queue q s)) s

abbrev pub switch_by : (Bool → Bool) → ℕ → State → State
switch_by change l s = put_switch l (change (switch l s)) s

-- there is a facility's and a storage's entry of this number
abbrev pub HasStorage : ℕ → Configuration → Type 0
HasStorage e m = (e < entity_count m) × (e < length m.entities.storages.values)

-- so many more entries of a storage can be counted
abbrev pub CanCountEntries : Units → Configuration → Type 0
CanCountEntries u m = (at (vacant 0) m.entities.storages.values u.entity).contents.entries + u.number ≤ 2 ^ 62

-- one more owner of a facility can be counted
abbrev pub CanCountOwner : ℕ → Configuration → Type 0
CanCountOwner f m = (at idle m.entities.facilities.values f).entries < 2 ^ 62

-- at most as many units are inside as have entered
abbrev pub IsWithinEntries : Contents → Type 0
IsWithinEntries c = c.content ≤ c.entries

-- the first of the delay list of a facility owns it at once, in its SEIZE block
abbrev pub handed_over_to : ℕ → ℕ → Transaction → State → State
handed_over_to f n t s = put_facility f (with_owner n (facility f s)) (enters_and_falls n t (called_from f n s))

-- the transaction n, if it is there, owns a facility at once where its next block is its SEIZE
abbrev pub taken_over_by : List Block → ℕ → ℕ → State → State
taken_over_by bs f n s = option_map_or (takes_over bs f n s) (attributes_at n s.transactions) s
