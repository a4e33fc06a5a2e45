use Rattle.std.proofs.Common.{◌≡◌, ◌∙◌, ap, sym}
use Rattle.slab.specs.Slab.{get}
use Rattle.gw_chains.specs.Newcomers.{host, with_newcomer}
use Rattle.gw_chains.specs.Buckets.{bucket_of_one, linked_behind, upto, GainMember}
use Rattle.gw_chains.proofs.Linking.{goes, unite}
use Rattle.gw_chains.proofs.Joining.{parted_by_rank, host_is_last, host_there, gains_behind}
use Rattle.gw_chains.proofs.row.insert_behind.Goals as goal

pub join_behind-host-requires-clause-order : goal.join_behind-host-requires-clause-order
join_behind-host-requires-clause-order g c = parted_by_rank c.bucket_of_one.result c.args.row.now.items c.requires.buckets.order

pub join_behind-host-requires-clause-last : goal.join_behind-host-requires-clause-last
join_behind-host-requires-clause-last g c = host_is_last c.bucket_of_one.result c.args.row.now.items c.requires.buckets.order

pub link_behind-requires : goal.link_behind-requires
link_behind-requires g c =
    host_there g.T.Ranked.rank (get c.args.links.now) (get c.insert_reserved-link.new.self) c.bucket_of_one.result c.args.row.now.items
    c.insert_reserved-link.result c.insert_reserved-link.ensures.was_vacant c.insert_reserved-link.ensures.updates.others
    c.requires.buckets c.join_behind-host.result (sym c.join_behind-host.ensures.host)

-- what became of the buckets
abbrev done : (g : _) (c : goal.After-link_behind g)
    → GainMember g.T.Ranked.rank (upto g.T.Ranked.rank c.args.member) c.args.member (get c.args.links.now) c.args.row.now.items
    (get c.link_behind.new.links) (with_newcomer goes unite (bucket_of_one g.T.Ranked.rank c.args.member c.insert_reserved-link.result) c.args.row.now.items)
done g c =
    gains_behind g.T.Ranked.rank (get c.args.links.now) (get c.insert_reserved-link.new.self) (get c.link_behind.new.links) c.args.member
    c.insert_reserved-link.result 0 c.insert_reserved-link.ensures.was_vacant c.insert_reserved-link.ensures.updates.changed
    c.insert_reserved-link.ensures.updates.others c.args.row.now.items c.requires.buckets c.requires.few
    (λ k. c.link_behind.ensures.links k
    ∙ ap (λ h. linked_behind h c.insert_reserved-link.result (get c.insert_reserved-link.new.self) k)
    (c.join_behind-host.ensures.host ∙ ap (λ n. host goes n c.args.row.now.items) c.bucket_of_one.ensures))

-- the buckets, as the newcomer found them
abbrev after : (g : _) (c : goal.After-link_behind g) → c.join_behind-host.new.chunk.items
    ≡ with_newcomer goes unite (bucket_of_one g.T.Ranked.rank c.args.member c.insert_reserved-link.result) c.args.row.now.items
after g c = c.join_behind-host.ensures.items ∙ ap (λ n. with_newcomer goes unite n c.args.row.now.items) c.bucket_of_one.ensures

pub returns-clause-gain : goal.returns-clause-gain
returns-clause-gain g c = rw (after g c) (done g c)
