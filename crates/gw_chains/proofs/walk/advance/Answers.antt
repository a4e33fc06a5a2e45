use Rattle.std.proofs.Common.{IsSome, ◌+◌, sym, subst, arith}
use Rattle.slab.specs.Slab.{get}
use Rattle.gw_chains.proofs.Spotting.{is_number, few_at, filled, link_there, place_more}
use Rattle.gw_chains.proofs.Walking.{walk_begun, walk_on, place_begun}
use Rattle.gw_chains.proofs.walk.advance.Goals as goal

pub overflow_add-walk : goal.overflow_add-walk
overflow_add-walk g c =
    omega (
      arith,
      c.args.row.now.ok.0,
      is_number c.args.row.now.items c.args.walk.now.spot.bucket c.args.walk.now.spot.passed (omega (arith, c.requires.walk.left, c.requires.there)),
    )

pub overflow_add-walk-else-walk-eq1 : goal.overflow_add-walk-else-walk-eq1
overflow_add-walk-else-walk-eq1 g c =
    omega (arith, c.requires.walk.left, c.requires.there, c.requires.few, few_at c.args.row.now.items c.args.walk.now.spot.bucket)

pub index-requires : goal.index-requires
index-requires g c =
    subst (λ k. IsSome (get c.args.links.now k)) (sym (c.requires.walk.here c.requires.there))
    (link_there g.T.Ranked.rank (get c.args.links.now) c.args.row.now.items c.args.walk.now.spot.bucket c.args.walk.now.spot.passed
    c.requires.buckets (omega (arith, c.requires.walk.left, c.requires.there)))

pub returns-then-walk-eq1-clause-walk : goal.returns-then-walk-eq1-clause-walk
returns-then-walk-eq1-clause-walk g c =
    walk_begun (get c.args.links.now) c.args.row.now.items c.walk_from.result (c.args.walk.now.spot.bucket + 1)
    (filled g.T.Ranked.rank (get c.args.links.now) c.args.row.now.items c.requires.buckets.each)
    c.walk_from.ensures.bucket c.walk_from.ensures.passed c.walk_from.ensures.here c.walk_from.ensures.left

pub returns-then-walk-eq1-clause-place : goal.returns-then-walk-eq1-clause-place
returns-then-walk-eq1-clause-place g c =
    place_begun c.args.row.now.items c.args.walk.now.spot c.walk_from.result.spot (omega (arith, c.requires.walk.left, c.if-walk-eq1.true))
    c.walk_from.ensures.bucket c.walk_from.ensures.passed

pub returns-else-walk-eq1-clause-walk : goal.returns-else-walk-eq1-clause-walk
returns-else-walk-eq1-clause-walk g c =
    walk_on g.T.Ranked.rank (get c.args.links.now) c.args.row.now.items c.args.walk.now c.index.result.now c.requires.buckets
    c.requires.walk (omega (arith, c.requires.there, c.if-walk-eq1.false)) c.index.ensures

pub returns-else-walk-eq1-clause-place : goal.returns-else-walk-eq1-clause-place
returns-else-walk-eq1-clause-place g c = place_more c.args.row.now.items c.args.walk.now.spot.bucket c.args.walk.now.spot.passed
