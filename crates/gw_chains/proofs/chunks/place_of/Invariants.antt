use Rattle.std.proofs.Common.{◌≡◌, ◌≤◌, ◌<◌, ◌+◌, ◌-◌, true, false, get_or}
use Rattle.std.specs.VecDeque.{deque_len}
use Rattle.gw_chains.specs.Chunks.{begins_in}
use Rattle.gw_chains.proofs.chunks.place_of.Given as goal

abbrev pub invariant-loop-low : goal.invariant-loop-low
invariant-loop-low g l = record {
  within : l.high < deque_len l.chunks;
  apart : l.low ≤ l.high;
  behind : (d : _) → 0 < l.low → begins_in (λ y. g.T.Placed.goes_first y l.newcomer) (get_or l.chunks.items l.low d).items ≡ true;
  before : (d : _) → l.high + 1 < deque_len l.chunks → begins_in (λ y. g.T.Placed.goes_first y l.newcomer) (get_or l.chunks.items (l.high + 1) d).items ≡ false;
}

abbrev pub decreases-loop-low : goal.decreases-loop-low
decreases-loop-low g l = l.high - l.low
