use Rattle.std.proofs.Common.{◌≡◌, ◌++◌, length}
use Rattle.std.specs.VecDeque.Iter.{deque_iter_rest}
use Rattle.slab.specs.Slab.{get}
use Rattle.gw_chains.specs.Buckets.{run, members_at, members_of}
use Rattle.gw_chains.proofs.delay_list.WaitersIterator.next.Given as goal

-- what is still to come is what it was
abbrev pub invariant-loop-member : goal.invariant-loop-member
invariant-loop-member l =
    members_at (get l.self-inside.links.now) (run (get l.self-inside.links.now) l.self-inside.left l.self-inside.at)
    ++ members_of (get l.self-inside.links.now) (deque_iter_rest l.self-inside.buckets) ≡ l.fn.self

abbrev pub decreases-loop-member : goal.decreases-loop-member
decreases-loop-member l = length (deque_iter_rest l.self-inside.buckets)
