use Rattle.std.proofs.Common.{◌≡◌, ◌≤◌, ◌+◌, ◌-◌, ◌++◌}
use Rattle.std.specs.VecDeque.{deque_len, deque_capacity}
use Rattle.gw_chains.proofs.chunks.split.Given as goal

abbrev pub invariant-loop-lower : goal.invariant-loop-lower
invariant-loop-lower g l = record {
  items : l.lower.items ++ l.upper.items ≡ l.fn.lower.items;
  len : deque_len l.lower + deque_len l.upper ≡ 128;
  few : deque_len l.upper ≤ 64;
  lower : deque_capacity l.lower ≡ deque_capacity l.fn.lower;
  upper : 128 ≤ deque_capacity l.upper;
}

abbrev pub decreases-loop-lower : goal.decreases-loop-lower
decreases-loop-lower g l = 64 - deque_len l.upper
