-- The certified weight of a state: how many block entries may still be made in its clock moment.
use Rattle.std.specs.Prelude.{ℕ, ◌+◌, ◌-◌, ◌*◌, ◌^◌, ℤ, List, sum, length, max, Option, Some, None, Bool, ◌&&◌, ◌==◌, if◌then◌else◌, int_lt}
use Rattle.std.specs.Option.{option_map_or}
use Rattle.std.specs.List.{list_any}
use Rattle.gw_object.specs.declared.blocks.Generate.{Generate}
use Rattle.gw_object.specs.declared.blocks.Block.{Block}
use Rattle.gw_object.specs.declared.blocks.Block.TheVariants as blocks
use Rattle.gw_object.specs.Limits.{most_blocks, greatest_weight}
use Rattle.gw_object.specs.declared.parts.Parts.{Parts}
use Rattle.gw_rules.specs.Exits.{takes_time}
use Rattle.gw_rules.specs.Kinds.{block_at}
use Rattle.gw_rules.specs.Weights.{weight_at, chain_weight, slope_at, above}
use Rattle.gw_num.specs.Table.{at, tabulate}
use Rattle.gw_transactions.specs.Transactions.{LiveTransaction}
use Rattle.gw_step.specs.State.{FutureEvent, State}
use Rattle.gw_step.specs.Turning.{two_next}

-- THE LIVE

-- the transaction of a number is scheduled for a time after the clock
abbrev pub is_later : State → ℕ → Bool
is_later s n = list_any (λ (e : FutureEvent). (e.number == n) && int_lt s.clock e.time) s.lists.future_events

-- how far a parameter is above 0; one that isn't set counts as 0
abbrev pub height : ℕ → List (Option ℤ) → ℕ
height q parameters = option_map_or above (at None parameters q) 0

-- what a slope adds to a weight, where these are the parameters
abbrev pub slope_addition : Option (ℕ × ℕ) → List (Option ℤ) → ℕ
slope_addition None parameters = 0
slope_addition (Some slope) parameters = slope.1 * height slope.0 parameters

-- what somebody with these parameters weighs who is about to enter the block of a number
abbrev pub weighs_there : Parts → ℕ → List (Option ℤ) → ℕ
weighs_there p b parameters = weight_at p.weights b + slope_addition (slope_at p.slopes b) parameters

-- the weight of the heavier of two blocks
abbrev pub heavier : Parts → ℕ × ℕ → List (Option ℤ) → ℕ
heavier p pair parameters = max (weighs_there p pair.0 parameters) (weighs_there p pair.1 parameters)

-- what a member of this user chain weighs; or who is a member of none, by its one next block, or the heavier of its two
abbrev pub weight_by : Parts → Option ℕ → ℕ → Option (ℕ × ℕ) → List (Option ℤ) → ℕ
weight_by p (Some c) next two parameters = chain_weight p c
weight_by p None next None parameters = weighs_there p next parameters
weight_by p None next (Some pair) parameters = heavier p pair parameters

-- what a transaction weighs where it is, if it is there
abbrev pub weight_in : Parts → Option LiveTransaction → ℕ
weight_in p None = 0
weight_in p (Some t) = weight_by p t.chain t.attributes.next (two_next p t.attributes) t.parameters

-- what the transaction of a number weighs in this clock moment: nothing where it is scheduled for a later one
abbrev pub weighs : Parts → State → ℕ → ℕ
weighs p s n = if is_later s n then 0 else weight_in p (at None s.transactions n)

-- WHAT IS OWED

-- how many arrivals of a GENERATE are still to be scheduled, where so many were, and all of them may come in one clock moment
abbrev pub still_owed : Generate → ℕ → ℕ
still_owed g scheduled = if takes_time g.interval.mean g.interval.half then 0 else option_map_or (λ limit. limit - scheduled) g.limit 0

-- the same of a block; another one owes none
abbrev pub owed_by : Option Block → ℕ → ℕ
owed_by (Some (blocks.Generate g)) scheduled = still_owed g scheduled
owed_by block scheduled = 0

-- what the arrivals weigh that the block of a number still owes
abbrev pub owes : Parts → State → ℕ → ℕ
owes p s b = owed_by (block_at p.blocks b) (at 0 s.scheduled b) * weight_at p.weights b

-- THE WEIGHT OF A STATE

-- no more weigh 65,536 live transactions, and 2 ^ 32 arrivals of each of 4,096 blocks, where no parameter is above this
abbrev pub most_weight : ℕ → ℕ
most_weight highest = 65536 * (greatest_weight + greatest_weight * highest) + most_blocks * 2 ^ 32 * greatest_weight

-- the sum over all live transactions, but those scheduled for a time after the clock, of the weight of their place, and what GENERATE blocks still owe
unfoldable pub weight : Parts → State → ℕ
weight p s = sum (tabulate (weighs p s) (length s.transactions)) + sum (tabulate (owes p s) (length p.blocks + 1))
