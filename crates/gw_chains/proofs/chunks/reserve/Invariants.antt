use Rattle.std.proofs.Common.{◌≡◌, ◌≤◌, ◌+◌, ◌-◌, length}
use Rattle.std.specs.Prelude.{All}
use Rattle.std.specs.VecDeque.{deque_len, deque_capacity}
use Rattle.gw_chains.specs.Chunks.{IsSpare}
use Rattle.gw_chains.proofs.chunks.reserve.Given as goal

abbrev pub invariant-loop-chunks : goal.invariant-loop-chunks
invariant-loop-chunks g l = record {
  items : l.chunks.items ≡ l.fn.chunks.items;
  len : deque_len l.chunks ≡ deque_len l.fn.chunks;
  room : deque_len l.chunks + l.more ≤ deque_capacity l.chunks;
  capacity : deque_capacity l.fn.chunks ≤ deque_capacity l.chunks;
  spare : All IsSpare l.spare.items;
  kept : length l.fn.spare.items ≤ length l.spare.items;
}

abbrev pub decreases-loop-chunks : goal.decreases-loop-chunks
decreases-loop-chunks g l = l.more - length l.spare.items
