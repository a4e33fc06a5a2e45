use Rattle.std.proofs.Common.{◌≡◌, ◌<◌, ◌∙◌, length, ap, arith}
use Rattle.slab.specs.Slab.{get}
use Rattle.gw_chains.specs.Spots.{place_at}
use Rattle.gw_chains.proofs.Spotting.{filled, count-here, spot_settled}
use Rattle.gw_chains.proofs.Walking.{count_past, walk_begun, walk_there}
use Rattle.gw_chains.proofs.walk.walk_at.Goals as goal

pub settle-spot-requires-clause-filled : goal.settle-spot-requires-clause-filled
settle-spot-requires-clause-filled g c = filled g.T.Ranked.rank (get c.args.links.now) c.args.row.now.items c.requires.buckets.each

pub returns-then-len-spot-clause-walk : goal.returns-then-len-spot-clause-walk
returns-then-len-spot-clause-walk g c =
    walk_begun (get c.args.links.now) c.args.row.now.items c.walk_from-then-len-spot.result c.settle-spot.result.bucket
    (filled g.T.Ranked.rank (get c.args.links.now) c.args.row.now.items c.requires.buckets.each)
    c.walk_from-then-len-spot.ensures.bucket c.walk_from-then-len-spot.ensures.passed c.walk_from-then-len-spot.ensures.here
    c.walk_from-then-len-spot.ensures.left

pub returns-then-len-spot-clause-place : goal.returns-then-len-spot-clause-place
returns-then-len-spot-clause-place g c =
    let bs = c.args.row.now.items in
    let spot = spot_settled (get c.args.links.now) bs c.args.spot c.settle-spot.result c.requires.spot c.settle-spot.ensures.kept in
    let none = count_past bs c.settle-spot.result.bucket (omega (arith, c.args.row.now.ok.0, c.len.ensures, c.if-len-spot.true)) in
    let same : c.walk_from-then-len-spot.result.spot.passed ≡ c.settle-spot.result.passed =
    omega (arith, c.walk_from-then-len-spot.ensures.passed, spot.within, none) in
    ap (λ n. place_at bs n c.walk_from-then-len-spot.result.spot.passed) c.walk_from-then-len-spot.ensures.bucket
    ∙ ap (λ p. place_at bs c.settle-spot.result.bucket p) same
    ∙ c.settle-spot.ensures.place

pub overflow_sub-result : goal.overflow_sub-result
overflow_sub-result g c =
    let within : c.settle-spot.result.bucket < length c.args.row.now.items = omega (arith, c.args.row.now.ok.0, c.len.ensures, c.if-len-spot.false) in
    omega (arith, count-here c.args.row.now.items c.settle-spot.result.bucket c.index.result.now within c.index.ensures, c.settle-spot.ensures.settled within)

pub returns-clause-walk : goal.returns-clause-walk
returns-clause-walk g c =
    walk_there (get c.args.links.now) c.args.row.now.items c.settle-spot.result c.index.result.now c.link_at.result
    (spot_settled (get c.args.links.now) c.args.row.now.items c.args.spot c.settle-spot.result c.requires.spot c.settle-spot.ensures.kept)
    c.settle-spot.ensures.settled
    (omega (arith, c.args.row.now.ok.0, c.len.ensures, c.if-len-spot.false)) c.index.ensures c.link_at.ensures

pub returns-then-spot-eq0-clause-walk : goal.returns-then-spot-eq0-clause-walk
returns-then-spot-eq0-clause-walk g c =
    walk_begun (get c.args.links.now) c.args.row.now.items c.walk_from.result c.args.spot.bucket
    (filled g.T.Ranked.rank (get c.args.links.now) c.args.row.now.items c.requires.buckets.each)
    c.walk_from.ensures.bucket c.walk_from.ensures.passed c.walk_from.ensures.here c.walk_from.ensures.left

pub returns-then-spot-eq0-clause-place : goal.returns-then-spot-eq0-clause-place
returns-then-spot-eq0-clause-place g c =
    let bs = c.args.row.now.items in
    ap (λ n. place_at bs n c.walk_from.result.spot.passed) c.walk_from.ensures.bucket
    ∙ ap (λ p. place_at bs c.args.spot.bucket p) (omega (arith, c.walk_from.ensures.passed, c.if-spot-eq0.true))
