use Rattle.std.proofs.Common.{◌≡◌, ◌++◌, length}
use Rattle.std.specs.VecDeque.Iter.{deque_iter_rest}
use Rattle.gw_chains.specs.Chunks.{all_of, rest_of}
use Rattle.gw_chains.proofs.buckets.next_bucket.Given as goal

-- what is still to come is what it was
abbrev pub invariant-loop-bucket : goal.invariant-loop-bucket
invariant-loop-bucket l = rest_of l.chunk ++ all_of (deque_iter_rest l.chunks) ≡ rest_of l.fn.chunk ++ all_of (deque_iter_rest l.fn.chunks)

abbrev pub decreases-loop-bucket : goal.decreases-loop-bucket
decreases-loop-bucket l = length (deque_iter_rest l.chunks)
