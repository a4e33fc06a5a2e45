-- Members by their priorities, and events by their times: who joins a list and who leaves it, by their transactions.
use Rattle.std.specs.Prelude.{ℕ, ℤ, List, Option, option_map, slice_get}
use Rattle.gw_members.specs.Chain.{behind, ahead, in_time, due, first}
use Rattle.gw_members.specs.declared.tx.Event.{Event}
use Rattle.gw_members.specs.declared.tx.Member.{Member}
use Rattle.gw_members.specs.declared.tx.Tx.{Tx}

-- a transaction of a priority, as a member
abbrev pub member_of : Tx → ℤ → Member
member_of tx priority = record { tx = tx; priority = priority }

-- members with a transaction of a priority behind its peers: behind all of equal or higher priority
abbrev pub behind_peers : Tx → ℤ → List Member → List Member
behind_peers tx priority xs = behind (λ (m : Member). m.priority) (member_of tx priority) xs

-- members with a transaction of a priority ahead of its peers: ahead of all of equal or lower priority
abbrev pub ahead_of_peers : Tx → ℤ → List Member → List Member
ahead_of_peers tx priority xs = ahead (λ (m : Member). m.priority) (member_of tx priority) xs

-- who is the first, if anybody is there
abbrev pub first_tx : List Member → Option Tx
first_tx xs = option_map (λ (m : Member). m.tx) (first xs)

-- the transaction at a place, if one is there
abbrev pub tx_at : ℕ → List Member → Option Tx
tx_at place xs = option_map (λ (m : Member). m.tx) (slice_get xs place)

-- events with one more, behind all that are scheduled for the same time or an earlier one
abbrev pub with_event : Event → List Event → List Event
with_event event xs = in_time (λ (e : Event). e.time) event xs

-- the events that are due at a time: the longest front of those that are scheduled for it or earlier
abbrev pub due_events : ℤ → List Event → List Event
due_events time xs = due (λ (e : Event). e.time) time xs

-- who is the first that is due at a time, if anybody is
abbrev pub first_due : ℤ → List Event → Option Tx
first_due time xs = option_map (λ (e : Event). e.tx) (first (due_events time xs))
