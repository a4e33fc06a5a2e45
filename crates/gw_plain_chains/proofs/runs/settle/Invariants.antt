use Rattle.std.proofs.Common.{◌≡◌, ◌≤◌, ◌+◌, ◌≤ℤ◌}
use Rattle.std.specs.Prelude.{AllPairs}
use Rattle.std.specs.VecDeque.{deque_len, deque_capacity}
use Rattle.gw_plain_chains.specs.Runs.{merge_by_time}
use Rattle.gw_members.specs.declared.tx.Event.{Event}
use Rattle.gw_plain_chains.proofs.Merging.{settling}
use Rattle.gw_plain_chains.proofs.runs.settle.Given as goal

-- the chain that is being settled is the one that it was
abbrev pub invariant-loop-event : goal.invariant-loop-event
invariant-loop-event l = record {
  same : settling (λ (e : Event). e.time) l.unseen l.settled.items l.recent.items ≡ merge_by_time (λ (e : Event). e.time) l.fn.settled.items l.fn.recent.items;
  ordered : AllPairs (λ (x y : Event). x.time ≤ℤ y.time) l.recent.items;
  unseen : l.unseen ≤ deque_len l.settled;
  len : deque_len l.settled + deque_len l.recent ≡ deque_len l.fn.settled + deque_len l.fn.recent;
  settled : deque_capacity l.settled ≡ deque_capacity l.fn.settled;
  recent : deque_capacity l.recent ≡ deque_capacity l.fn.recent;
}

abbrev pub decreases-loop-event : goal.decreases-loop-event
decreases-loop-event l = deque_len l.recent
