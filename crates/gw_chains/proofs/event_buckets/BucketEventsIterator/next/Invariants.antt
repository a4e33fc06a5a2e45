use Rattle.std.proofs.Common.{◌≡◌, ◌++◌, length}
use Rattle.std.specs.VecDeque.Iter.{deque_iter_rest}
use Rattle.slab.specs.Slab.{get}
use Rattle.gw_chains.specs.Chunks.{all_of, rest_of}
use Rattle.gw_chains.specs.Buckets.{run, members_at, members_of}
use Rattle.gw_chains.proofs.event_buckets.BucketEventsIterator.next.Given as goal

-- what is still to come is what it was
abbrev pub invariant-loop-event : goal.invariant-loop-event
invariant-loop-event l =
    members_at (get l.self-inside.links.now) (run (get l.self-inside.links.now) l.self-inside.left l.self-inside.at)
    ++ members_of (get l.self-inside.links.now) (rest_of l.self-inside.chunk ++ all_of (deque_iter_rest l.self-inside.chunks)) ≡ l.fn.self

abbrev pub decreases-loop-event : goal.decreases-loop-event
decreases-loop-event l = length (rest_of l.self-inside.chunk ++ all_of (deque_iter_rest l.self-inside.chunks))
