use Rattle.std.proofs.Common.{◌≡◌, ◌∙◌, ◌++◌, [], ap, sym}
use Rattle.std.specs.VecDeque.Iter.{deque_iter_rest}
use Rattle.slab.specs.Slab.{get}
use Rattle.gw_chains.specs.Chunks.{all_of, rest_of}
use Rattle.gw_chains.specs.Buckets.{run, links_of, members_at, members_of}
use Rattle.gw_chains.proofs.Linking.{members-append}
use Rattle.gw_chains.proofs.event_buckets.BucketEventsIterator.next.Goals as goal

pub loop-event-preserved : goal.loop-event-preserved
loop-event-preserved c =
    let S = get c.loop-event.self-inside.links.now in
    let b = c.in-Some-next_bucket.bucket.now in
    let later = rest_of c.next_bucket.new.chunk ++ all_of (deque_iter_rest c.next_bucket.new.chunks) in
    let before = rest_of c.loop-event.self-inside.chunk ++ all_of (deque_iter_rest c.loop-event.self-inside.chunks) in
    let empty : members_at S (run S c.loop-event.self-inside.left c.loop-event.self-inside.at) ≡ [] =
    c.in_default.ensures.members
    ∙ ap (λ n. members_at S (run S n c.next_member.new.at)) c.in_default.ensures.end in
    sym (members-append S (run S b.count b.first) (links_of S later))
    ∙ ap (members_of S) (sym c.in-Some-next_bucket.ensures.items)
    ∙ ap (λ zs. zs ++ members_of S before) (sym empty)
    ∙ c.loop-event.invariant
