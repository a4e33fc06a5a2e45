use Rattle.std.proofs.Common.{◌≡◌, ◌≤◌, ◌+◌, length}
use Rattle.std.specs.VecDeque.{deque_capacity}
use Rattle.gw_members.specs.Chain.{all_behind}
use Rattle.gw_members.specs.declared.tx.Member.{Member}
use Rattle.gw_chains.proofs.waits.wake.Given as goal

abbrev pub invariant-loop-member : goal.invariant-loop-member
invariant-loop-member l = record {
  woken : all_behind (λ (m : Member). m.priority) l.sleepers.items l.cec.items ≡ all_behind (λ (m : Member). m.priority) l.fn.sleepers.items l.fn.cec.items;
  room : length l.sleepers.items ≤ l.cec.room;
  left : l.fn.cec.room + length l.sleepers.items ≤ l.cec.room + length l.fn.sleepers.items;
  capacity : deque_capacity l.sleepers ≡ deque_capacity l.fn.sleepers;
}

abbrev pub decreases-loop-member : goal.decreases-loop-member
decreases-loop-member l = length l.sleepers.items
