-- Where a storage admits nobody.
use Rattle.std.specs.Prelude.{◌≡◌, ◌<◌, ◌⊎◌, ℕ, List, Some, None, true, false}
use Rattle.gw_object.specs.declared.blocks.Block.{Block}
use Rattle.gw_object.specs.declared.blocks.Units.{Units}
use Rattle.gw_entities.specs.Storage.{has_room}
use Rattle.gw_rules.specs.Kinds.{block_at}
use Rattle.gw_step.specs.Blocks.{units_asked, admission, is_full}
use Rattle.gw_step.specs.Changes.{storage}
use Rattle.gw_step.specs.Residence.{occurrences}
use Rattle.gw_step.specs.State.{State, delay_list}
use Rattle.gw_machine.specs.Configuration.{Configuration}
use Rattle.gw_machine.specs.Leaving.{waiter_come_to}
use Rattle.gw_machine.specs.View.{state_of}
use Rattle.gw_machine.specs.Wants.{nexts}

-- the units that the block of a number asks of a storage, if it is its ENTER, aren't free
abbrev pub AsksInVain : List Block → ℕ → ℕ → State → Type 0
AsksInVain bs e number s = (u : Units) → units_asked e (block_at bs number) ≡ Some u → has_room u.number (storage u.entity s) ≡ false

-- nobody who waits for a storage can enter
abbrev pub AdmitsNobody : List Block → ℕ → State → Type 0
AdmitsNobody bs e s = admission bs e (delay_list e s) s ≡ s

-- whichever block anybody who waits for a storage wants to enter, its units aren't free
abbrev pub AllAskInVain : List Block → ℕ → State → Type 0
AllAskInVain bs e s = (b : ℕ) → 0 < occurrences b (nexts e s) → AsksInVain bs e b s

-- the walk over the delay list of a storage has come to its end, or to where nobody else can enter, since no unit is free
abbrev pub EndsWalk : ℕ → Configuration → Type 0
EndsWalk e m = (waiter_come_to e m ≡ None) ⊎ (is_full (storage e (state_of m)) ≡ true)
