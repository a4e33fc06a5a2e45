use Rattle.std.proofs.Common.{rules, ◌≡◌, ◌∙◌, ◌++◌, ◌∷◌, [], ap, sym}
use Rattle.std.specs.VecDeque.Iter.{deque_iter_rest}
use Rattle.slab.specs.Slab.{get}
use Rattle.gw_chains.specs.Buckets.{run, links_of, members_at, members_of}
use Rattle.gw_chains.proofs.Linking.{members-append}
use Rattle.gw_chains.proofs.delay_list.WaitersIterator.next.Goals as goal

pub loop-member-preserved : goal.loop-member-preserved
loop-member-preserved c =
    let S = get c.loop-member.self-inside.links.now in
    let b = c.in-Some-next.bucket.now in
    let later = deque_iter_rest c.next.new.self in
    let before = deque_iter_rest c.loop-member.self-inside.buckets in
    let empty : members_at S (run S c.loop-member.self-inside.left c.loop-member.self-inside.at) ≡ [] =
    c.in_default.ensures.members
    ∙ ap (λ n. members_at S (run S n c.next_member.new.at)) c.in_default.ensures.end in
    let begun : b ∷ later ≡ before = search rules in
    sym (members-append S (run S b.count b.first) (links_of S later))
    ∙ ap (members_of S) begun
    ∙ ap (λ zs. zs ++ members_of S before) (sym empty)
    ∙ c.loop-member.invariant
