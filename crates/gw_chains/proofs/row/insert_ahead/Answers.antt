use Rattle.std.proofs.Common.{◌≡◌, ◌∙◌, ap, subst}
use Rattle.std.specs.Prelude.{IfSome}
use Rattle.slab.specs.Slab.{get}
use Rattle.gw_chains.specs.Buckets.{bucket_of_one, head_host, with_head, lower, GainMember}
use Rattle.gw_chains.proofs.Heading.{gains_ahead}
use Rattle.gw_chains.proofs.row.insert_ahead.Goals as goal

-- what became of the buckets
abbrev done : (g : _) (c : goal.After-put_ahead g)
    → GainMember g.T.Ranked.rank (lower g.T.Ranked.rank c.args.member) c.args.member (get c.args.links.now) c.args.row.now.items
    (get c.insert_reserved-link.new.self) (with_head (bucket_of_one g.T.Ranked.rank c.args.member c.insert_reserved-link.result) c.args.row.now.items)
done g c =
    gains_ahead g.T.Ranked.rank (get c.args.links.now) (get c.insert_reserved-link.new.self) c.args.member c.insert_reserved-link.result
    c.first_link-next.result c.insert_reserved-link.ensures.was_vacant c.insert_reserved-link.ensures.updates.changed
    c.insert_reserved-link.ensures.updates.others c.args.row.now.items c.requires.buckets c.requires.few
    (subst (λ h. IfSome h (λ b. c.first_link-next.result ≡ b.first))
    (c.host_at-host.ensures ∙ ap (λ n. head_host n c.args.row.now.items) c.bucket_of_one-sought.ensures) c.first_link-next.ensures)

-- the buckets, as the newcomer found them
abbrev after : (g : _) (c : goal.After-put_ahead g) → c.put_ahead.new.row.items
    ≡ with_head (bucket_of_one g.T.Ranked.rank c.args.member c.insert_reserved-link.result) c.args.row.now.items
after g c = c.put_ahead.ensures.items ∙ ap (λ n. with_head n c.args.row.now.items) c.bucket_of_one.ensures

pub returns-clause-gain : goal.returns-clause-gain
returns-clause-gain g c = rw (after g c) (done g c)
