use Rattle.std.proofs.Common.{IsSome, sym, ap, ◌∙◌, subst}
use Rattle.slab.specs.Slab.{get}
use Rattle.gw_chains.specs.Spots.{without_link}
use Rattle.gw_chains.proofs.Spotting.{link_there, before_there, before_apart}
use Rattle.gw_chains.proofs.Taking.{stands_there, Unlinked, unlinked_at}
use Rattle.gw_chains.proofs.row.unlink.Goals as goal

pub remove-link-requires : goal.remove-link-requires
remove-link-requires g c =
    subst (λ k. IsSome (get c.args.links.now k)) (sym c.requires.here)
    (link_there g.T.Ranked.rank (get c.args.links.now) c.args.row.now.items c.args.spot.bucket c.args.spot.passed c.requires.buckets c.requires.there)

pub lead_past-requires : goal.lead_past-requires
lead_past-requires g c some =
    let apart = before_apart g.T.Ranked.rank (get c.args.links.now) c.args.row.now.items c.args.spot c.requires.buckets c.requires.spot c.requires.there some in
    subst IsSome (sym (c.remove-link.ensures.updates.others c.args.spot.before (λ same. apart (same ∙ c.requires.here))))
    (before_there g.T.Ranked.rank (get c.args.links.now) c.args.row.now.items c.args.spot c.requires.buckets c.requires.spot some)

pub returns-clause-value : goal.returns-clause-value
returns-clause-value g c =
    stands_there g.T.Ranked.rank (get c.args.links.now) c.args.row.now.items c.args.spot c.remove-link.result c.requires.buckets
    c.requires.there (ap (get c.args.links.now) (sym c.requires.here) ∙ c.remove-link.ensures.value)

-- what is left
abbrev done : (g : _) (c : goal.After-shorten_at g)
    → Unlinked g.T.Ranked.rank (get c.args.links.now) (get c.remove-link.new.self) (get c.lead_past.new.links) c.args.spot c.args.here
    c.remove-link.result c.remove-link.ensures.value c.remove-link.ensures.updates.changed c.remove-link.ensures.updates.others
    c.lead_past.ensures.links c.args.row.now.items (without_link c.args.spot c.remove-link.result.next c.args.row.now.items c.args.spot.bucket)
done g c =
    unlinked_at g.T.Ranked.rank (get c.args.links.now) (get c.remove-link.new.self) (get c.lead_past.new.links) c.args.spot c.args.here
    c.remove-link.result c.remove-link.ensures.value c.remove-link.ensures.updates.changed c.remove-link.ensures.updates.others c.lead_past.ensures.links
    c.args.row.now.items c.requires.buckets c.requires.spot c.requires.there c.requires.here

pub returns-clause-members : goal.returns-clause-members
returns-clause-members g c = rw c.shorten_at.ensures.items (done g c).members

pub returns-clause-buckets : goal.returns-clause-buckets
returns-clause-buckets g c = rw c.shorten_at.ensures.items (done g c).buckets

pub returns-clause-total : goal.returns-clause-total
returns-clause-total g c = rw c.shorten_at.ensures.items (done g c).many

pub returns-clause-spot : goal.returns-clause-spot
returns-clause-spot g c = rw c.shorten_at.ensures.items (done g c).spot

pub returns-clause-place : goal.returns-clause-place
returns-clause-place g c = rw c.shorten_at.ensures.items (done g c).place
