use Rattle.std.proofs.Common.{◌≡◌, ◌≤◌, ◌+◌, ◌++◌, length, reverse}
use Rattle.std.specs.VecDeque.{deque_len, deque_capacity}
use Rattle.slab.specs.Slab.{get, slab_len}
use Rattle.gw_chains.specs.Buckets.{members_of, total, AreBuckets}
use Rattle.gw_members.specs.declared.tx.Event.{Event}
use Rattle.gw_chains.proofs.event_buckets.fill.Given as goal

-- those in the row come before all that are left
abbrev pub invariant-loop-event : goal.invariant-loop-event
invariant-loop-event l = record {
  members : members_of (get l.links) l.row.items ++ reverse l.few.items ≡ reverse l.fn.few.items;
  buckets : AreBuckets (λ (e : Event). e.time) (get l.links) l.row.items;
  many : total l.row.items + length l.few.items ≡ length l.fn.few.items;
  len : deque_len l.row + length l.few.items ≤ length l.fn.few.items;
  capacity : deque_capacity l.fn.row ≤ deque_capacity l.row;
  slots : slab_len l.links + length l.few.items ≡ slab_len l.fn.links + length l.fn.few.items;
  links : l.links.capacity ≡ l.fn.links.capacity;
}

abbrev pub decreases-loop-event : goal.decreases-loop-event
decreases-loop-event l = length l.few.items
