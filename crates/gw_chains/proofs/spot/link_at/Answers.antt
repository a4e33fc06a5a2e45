use Rattle.std.proofs.Common.{arith}
use Rattle.slab.specs.Slab.{get}
use Rattle.gw_chains.proofs.Spotting.{is_number, before_there, link-first, link-next}
use Rattle.gw_chains.proofs.spot.link_at.Goals as goal

pub index-requires : goal.index-requires
index-requires g c = omega (arith, c.args.row.now.ok.0, is_number c.args.row.now.items c.args.spot.bucket c.args.spot.passed c.requires.there)

pub index-requires-else-spot-eq0 : goal.index-requires-else-spot-eq0
index-requires-else-spot-eq0 g c =
    before_there g.T.Ranked.rank (get c.args.links.now) c.args.row.now.items c.args.spot c.requires.buckets c.requires.spot (omega arith)

pub returns-then-spot-eq0 : goal.returns-then-spot-eq0
returns-then-spot-eq0 g c =
    link-first (get c.args.links.now) c.args.row.now.items c.args.spot.bucket c.args.spot.passed c.index.result.now
    (is_number c.args.row.now.items c.args.spot.bucket c.args.spot.passed c.requires.there) c.index.ensures (omega arith)

pub returns-else-spot-eq0 : goal.returns-else-spot-eq0
returns-else-spot-eq0 g c =
    link-next g.T.Ranked.rank (get c.args.links.now) c.args.row.now.items c.args.spot c.index-else-spot-eq0.result.now c.requires.buckets
    c.requires.spot c.requires.there (omega arith) c.index-else-spot-eq0.ensures
