use Rattle.std.proofs.Common.{◌≡◌, ◌+◌, ◌≤◌, map, length}
use Rattle.std.specs.VecDeque.{deque_len, deque_capacity}
use Rattle.gw_batch.specs.Waiting.{waiting_entry}
use Rattle.gw_batch.specs.Tickets.{StartWith}
use Rattle.gw_batch.proofs.submission.submit_some.Given as goal

abbrev pub invariant-loop-alloc : goal.invariant-loop-alloc
invariant-loop-alloc g l = record {
  started : StartWith l.fn.first (map waiting_entry l.fn.waiting.items) l.tickets.items (map waiting_entry l.waiting.items);
  room : deque_len l.tickets + deque_len l.waiting ≤ deque_capacity l.tickets;
  none : length l.tickets.items ≡ 0 → l.need ≡ 0;
  count : length l.tickets.items + length l.waiting.items ≡ length l.fn.waiting.items;
}

abbrev pub decreases-loop-alloc : goal.decreases-loop-alloc
decreases-loop-alloc g l = length l.waiting.items
