use Rattle.std.proofs.Common.{arith}
use Rattle.slab.specs.Slab.{get}
use Rattle.gw_chains.proofs.Spotting.{is_number, links_there, spot_found}
use Rattle.gw_chains.proofs.spot.spot_of.Goals as goal

pub index-requires : goal.index-requires
index-requires g c = omega
    (arith, c.args.row.now.ok.0, is_number c.args.row.now.items c.bucket_of-bucket.result.0 c.bucket_of-bucket.result.1 c.bucket_of-bucket.ensures.inside)

pub last_link-before-requires : goal.last_link-before-requires
last_link-before-requires g c =
    links_there g.T.Ranked.rank (get c.args.links.now) c.args.row.now.items c.bucket_of-bucket.result.0 c.bucket_of-bucket.result.1 c.index.result.now
    (is_number c.args.row.now.items c.bucket_of-bucket.result.0 c.bucket_of-bucket.result.1 c.bucket_of-bucket.ensures.inside)
    c.index.ensures c.bucket_of-bucket.ensures.inside c.requires.buckets

pub returns-clause-spot : goal.returns-clause-spot
returns-clause-spot g c =
    spot_found (get c.args.links.now) c.args.row.now.items c.bucket_of-bucket.result.0 c.bucket_of-bucket.result.1 c.last_link-before.result c.index.result.now
    (is_number c.args.row.now.items c.bucket_of-bucket.result.0 c.bucket_of-bucket.result.1 c.bucket_of-bucket.ensures.inside)
    c.index.ensures c.bucket_of-bucket.ensures.inside c.last_link-before.ensures
