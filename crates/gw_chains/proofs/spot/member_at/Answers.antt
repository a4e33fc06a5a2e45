use Rattle.std.proofs.Common.{◌≡◌, ◌∙◌, IsSome, sym, ap, subst, arith, refl}
use Rattle.std.specs.Prelude.{slice_get}
use Rattle.slab.specs.Slab.{get}
use Rattle.gw_chains.specs.Buckets.{members_of}
use Rattle.gw_chains.proofs.Spotting.{filled, number_from, link_there, link-first}
use Rattle.gw_chains.proofs.Taking.{stands_there, stands_first}
use Rattle.gw_chains.proofs.spot.member_at.Goals as goal

pub index-requires-then-place-eq0 : goal.index-requires-then-place-eq0
index-requires-then-place-eq0 g c =
    let bs = c.args.row.now.items in
    let some = number_from bs 0 c.args.place c.requires.there in
    subst (λ k. IsSome (get c.args.links.now k)) (sym (link-first (get c.args.links.now) bs 0 0 c.index.result.now some c.index.ensures refl))
    (link_there g.T.Ranked.rank (get c.args.links.now) bs 0 0 c.requires.buckets
    (filled g.T.Ranked.rank (get c.args.links.now) bs c.requires.buckets.each 0 some))

pub returns-then-place-eq0 : goal.returns-then-place-eq0
returns-then-place-eq0 g c =
    let bs = c.args.row.now.items in
    let first : c.args.place ≡ 0 = omega arith in
    ap (λ n. slice_get (members_of (get c.args.links.now) bs) n) first
    ∙ stands_first g.T.Ranked.rank (get c.args.links.now) bs c.index.result.now c.index-then-place-eq0.result.now c.requires.buckets
    (number_from bs 0 c.args.place c.requires.there) c.index.ensures c.index-then-place-eq0.ensures

pub index-requires-2 : goal.index-requires-2
index-requires-2 g c =
    subst (λ k. IsSome (get c.args.links.now k)) (sym c.link_at.ensures)
    (link_there g.T.Ranked.rank (get c.args.links.now) c.args.row.now.items c.spot_of-spot.result.bucket c.spot_of-spot.result.passed
    c.requires.buckets c.spot_of-spot.ensures.there)

pub returns : goal.returns
returns g c =
    ap (λ n. slice_get (members_of (get c.args.links.now) c.args.row.now.items) n) (sym c.spot_of-spot.ensures.place)
    ∙ stands_there g.T.Ranked.rank (get c.args.links.now) c.args.row.now.items c.spot_of-spot.result c.index-2.result.now
    c.requires.buckets c.spot_of-spot.ensures.there (ap (get c.args.links.now) (sym c.link_at.ensures) ∙ c.index-2.ensures)
