use Rattle.std.proofs.Common.{◌≡◌, ◌∙◌, ap, sym, arith, inl, inr}
use Rattle.slab.specs.Slab.{get}
use Rattle.gw_chains.specs.Spots.{place_at}
use Rattle.gw_chains.proofs.Spotting.{filled}
use Rattle.gw_chains.proofs.Walking.{walk_begun, ended_passed}
use Rattle.gw_chains.proofs.walk.begin_walk.Goals as goal

pub returns-then-walk-eq0-clause-walk : goal.returns-then-walk-eq0-clause-walk
returns-then-walk-eq0-clause-walk g c =
    walk_begun (get c.args._links.now) c.args.row.now.items c.walk_from.result c.args.walk.spot.bucket
    (filled g.T.Ranked.rank (get c.args._links.now) c.args.row.now.items c.requires.buckets.each)
    c.walk_from.ensures.bucket c.walk_from.ensures.passed c.walk_from.ensures.here c.walk_from.ensures.left

pub returns-then-walk-eq0-clause-place : goal.returns-then-walk-eq0-clause-place
returns-then-walk-eq0-clause-place g c =
    let bs = c.args.row.now.items in
    let none : c.args.walk.spot.passed ≡ 0 = elim c.requires.walk [
      | inl walk ↦ ended_passed (get c.args._links.now) bs c.args.walk walk (omega (arith, c.if-walk-eq0.true))
      | inr begins ↦ begins.1
    ] in
    ap (λ n. place_at bs n c.walk_from.result.spot.passed) c.walk_from.ensures.bucket
    ∙ ap (λ p. place_at bs c.args.walk.spot.bucket p) (c.walk_from.ensures.passed ∙ sym none)

pub returns-clause-walk : goal.returns-clause-walk
returns-clause-walk g c = elim c.requires.walk [
  | inl walk ↦ walk
  | inr begins ↦ absurd (omega (arith, begins.2, c.if-walk-eq0.false))
]
