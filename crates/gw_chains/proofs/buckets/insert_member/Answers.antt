use Rattle.std.proofs.Common.{◌≡◌, ◌∙◌, ap, sym}
use Rattle.slab.specs.Slab.{get}
use Rattle.gw_chains.specs.Chunks.{all_of}
use Rattle.gw_chains.specs.Newcomers.{host, with_newcomer}
use Rattle.gw_chains.specs.Buckets.{bucket_of_one, linked_behind, upto, GainMember}
use Rattle.gw_chains.proofs.Linking.{goes, unite}
use Rattle.gw_chains.proofs.Joining.{parted_by_rank, host_is_last, host_there, gains_behind}
use Rattle.gw_chains.proofs.buckets.insert_member.Goals as goal

pub insert-host-requires-clause-order : goal.insert-host-requires-clause-order
insert-host-requires-clause-order g c = parted_by_rank c.bucket_of_one.result (all_of c.args.chunks.now.items) c.requires.buckets.order

pub insert-host-requires-clause-last : goal.insert-host-requires-clause-last
insert-host-requires-clause-last g c = host_is_last c.bucket_of_one.result (all_of c.args.chunks.now.items) c.requires.buckets.order

pub link_behind-requires : goal.link_behind-requires
link_behind-requires g c =
    host_there g.T.Ranked.rank (get c.args.links.now) (get c.insert_reserved-link.new.self) c.bucket_of_one.result
    (all_of c.args.chunks.now.items) c.insert_reserved-link.result c.insert_reserved-link.ensures.was_vacant
    c.insert_reserved-link.ensures.updates.others c.requires.buckets c.insert-host.result (sym c.insert-host.ensures.host)

-- what became of the buckets
abbrev done : (g : _) (c : goal.After-link_behind g)
    → GainMember g.T.Ranked.rank (upto g.T.Ranked.rank c.args.member) c.args.member (get c.args.links.now) (all_of c.args.chunks.now.items)
    (get c.link_behind.new.links)
    (with_newcomer goes unite (bucket_of_one g.T.Ranked.rank c.args.member c.insert_reserved-link.result) (all_of c.args.chunks.now.items))
done g c =
    gains_behind g.T.Ranked.rank (get c.args.links.now) (get c.insert_reserved-link.new.self) (get c.link_behind.new.links) c.args.member
    c.insert_reserved-link.result 0 c.insert_reserved-link.ensures.was_vacant c.insert_reserved-link.ensures.updates.changed
    c.insert_reserved-link.ensures.updates.others (all_of c.args.chunks.now.items) c.requires.buckets c.requires.few
    (λ k. c.link_behind.ensures.links k
    ∙ ap (λ h. linked_behind h c.insert_reserved-link.result (get c.insert_reserved-link.new.self) k)
    (c.insert-host.ensures.host ∙ ap (λ n. host goes n (all_of c.args.chunks.now.items)) c.bucket_of_one.ensures))

-- the buckets, as the newcomer found them
abbrev after : (g : _) (c : goal.After-link_behind g) → all_of c.insert-host.new.chunks.items
    ≡ with_newcomer goes unite (bucket_of_one g.T.Ranked.rank c.args.member c.insert_reserved-link.result) (all_of c.args.chunks.now.items)
after g c = c.insert-host.ensures.items ∙ ap (λ n. with_newcomer goes unite n (all_of c.args.chunks.now.items)) c.bucket_of_one.ensures

pub returns-clause-gain : goal.returns-clause-gain
returns-clause-gain g c = rw (after g c) (done g c)
