-- What a machine's transactions weigh, and what its blocks owe.
use Rattle.std.specs.Prelude.{ℕ, ◌+◌, ◌-◌, ◌*◌, ◌^◌, ℤ, List, sum_by, Option, None, int_lt, if◌then◌else◌}
use Rattle.gw_object.specs.Limits.{greatest_weight}
use Rattle.gw_object.specs.declared.parts.Parts.{Parts}
use Rattle.gw_rules.specs.Kinds.{block_at}
use Rattle.gw_num.specs.Table.{at}
use Rattle.gw_members.specs.declared.tx.Event.{Event}
use Rattle.gw_transactions.specs.Transactions.{LiveTransaction}
use Rattle.gw_transactions.specs.declared.Transaction.{Transaction}
use Rattle.gw_rules.specs.Weights.{weight_at}
use Rattle.gw_machine.specs.Configuration.{Configuration}
use Rattle.gw_step.specs.Weight.{weight_in, weight_by, owed_by}
use Rattle.gw_step.specs.Turning.{two_next}

-- the greatest value of a parameter, which has 64 bits and a sign
abbrev pub greatest_value : ℕ
greatest_value = 2 ^ 63 - 1

-- no transaction weighs more where it is
abbrev pub heaviest : ℕ
heaviest = greatest_weight + greatest_weight * greatest_value

-- the weight of the place of a transaction that is scheduled for later than a time; that of another one isn't counted
abbrev pub later_weight : Parts → List (Option LiveTransaction) → ℤ → Event → ℕ
later_weight p transactions time e = if int_lt time e.time then weight_in p (at None transactions e.tx.number) else 0

-- the weights of the places of those together that are scheduled for a time after a machine's clock
abbrev pub later_weights : Parts → Configuration → ℕ
later_weights p m = sum_by (later_weight p m.transactions.txs m.clock) m.future_events.items

-- what a transaction of these attributes weighs where it is, that is a member of this user chain or of none, and has these parameters
abbrev pub weight_with : Parts → Option ℕ → Transaction → List (Option ℤ) → ℕ
weight_with p chain t parameters = weight_by p chain t.next (two_next p t) parameters

-- what the arrivals weigh that the block of a number still owes, where so many of it were scheduled
abbrev pub owed_weight_after : Parts → ℕ → ℕ → ℕ
owed_weight_after p scheduled b = owed_by (block_at p.blocks b) scheduled * weight_at p.weights b

-- the same, where so many of each block were scheduled
abbrev pub owed_weight : Parts → List ℕ → ℕ → ℕ
owed_weight p scheduled b = owed_weight_after p (at 0 scheduled b) b
