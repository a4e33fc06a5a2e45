-- What is seen of a state by readers alone.
use Rattle.std.specs.Prelude.{ℕ, length, sum_by, Option}
use Rattle.std.specs.Option.{option_and_then}
use Rattle.gw_object.specs.declared.parts.Parts.{Parts}
use Rattle.gw_transactions.specs.declared.Transaction.{Transaction}
use Rattle.gw_transactions.specs.Transactions.{attributes_at}
use Rattle.gw_step.specs.State.{State}
use Rattle.gw_step.specs.Turning.{two_next}

-- the attributes of the active transaction, if there is one
abbrev pub active_attributes : State → Option Transaction
active_attributes s = option_and_then (λ n. attributes_at n s.transactions) s.lists.active

-- the two blocks that the active transaction tries, if it has two
abbrev pub next_pair : Parts → State → Option (ℕ × ℕ)
next_pair p s = option_and_then (two_next p) (active_attributes s)

-- how many wait on delay lists, those of all facilities and storages together
abbrev pub delayed_in : State → ℕ
delayed_in s = sum_by length s.lists.delay_lists
