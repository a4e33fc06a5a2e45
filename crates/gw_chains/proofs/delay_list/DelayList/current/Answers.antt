use Rattle.std.proofs.Common.{◌≤◌, ◌<◌, ◌∙◌, IsSome, length, sym, ap, subst, arith, refl, neg_ℤ}
use Rattle.std.specs.Prelude.{option_map, slice_get}
use Rattle.std.proofs.lemmas.Option.{slice_get_past}
use Rattle.slab.specs.Slab.{get}
use Rattle.gw_chains.specs.Buckets.{members_of}
use Rattle.gw_chains.specs.Spots.{place_at}
use Rattle.gw_members.specs.declared.tx.Member.{Member}
use Rattle.gw_chains.proofs.Spotting.{place_inside, link_there}
use Rattle.gw_chains.proofs.Taking.{stands_there}
use Rattle.gw_chains.proofs.Walking.{walk_ended}
use Rattle.gw_chains.proofs.delay_list.DelayList.current.Goals.{Then-walk-eq0}
use Rattle.gw_chains.proofs.delay_list.DelayList.current.Goals as goal

-- the walk is at the end
past : (c : Then-walk-eq0) → length (members_of (get c.self.inside.links) c.self.inside.buckets.items)
    ≤ place_at c.self.inside.buckets.items c.self.inside.walk.spot.bucket c.self.inside.walk.spot.passed
past c =
    let ended = walk_ended (get c.self.inside.links) c.self.inside.buckets.items c.begin_walk-walk.result c.begin_walk-walk.ensures.walk
    (omega (arith, c.if-walk-eq0.true)) in
    omega (arith, ended, c.begin_walk-walk.ensures.place, c.self.invariant.0.1, c.self.invariant.0.2)

pub returns-then-walk-eq0-clause-value : goal.returns-then-walk-eq0-clause-value
returns-then-walk-eq0-clause-value c =
    rw (← c.self.view_is)
    (sym (ap (option_map (λ (m : Member). m.tx))
    (slice_get_past (members_of (get c.self.inside.links) c.self.inside.buckets.items)
    (place_at c.self.inside.buckets.items c.self.inside.walk.spot.bucket c.self.inside.walk.spot.passed) (past c))))

pub returns-then-walk-eq0-clause-there : goal.returns-then-walk-eq0-clause-there
returns-then-walk-eq0-clause-there c = rw (← c.self.view_is) (λ clash. absurd (cc), λ before. absurd (omega (arith, before, past c)))

pub index-requires : goal.index-requires
index-requires c =
    let walk = c.begin_walk-walk.ensures.walk in
    let spot = c.begin_walk-walk.result.spot in
    subst (λ k. IsSome (get c.self.inside.links k)) (sym (walk.here (omega (arith, c.if-walk-eq0.false))))
    (link_there (λ (m : Member). neg_ℤ m.priority) (get c.self.inside.links) c.self.inside.buckets.items spot.bucket spot.passed
    c.self.invariant.0.0 (omega (arith, walk.left, c.if-walk-eq0.false)))

pub returns-clause-value : goal.returns-clause-value
returns-clause-value c =
    let walk = c.begin_walk-walk.ensures.walk in
    let members = members_of (get c.self.inside.links) c.self.inside.buckets.items in
    let stands = stands_there (λ (m : Member). neg_ℤ m.priority) (get c.self.inside.links) c.self.inside.buckets.items
    c.begin_walk-walk.result.spot c.index.result.now c.self.invariant.0.0 (omega (arith, walk.left, c.if-walk-eq0.false))
    (ap (get c.self.inside.links) (sym (walk.here (omega (arith, c.if-walk-eq0.false)))) ∙ c.index.ensures) in
    rw (← c.self.view_is) (sym (ap (option_map (λ (m : Member). m.tx)) (ap (slice_get members) (sym c.begin_walk-walk.ensures.place) ∙ stands)))

pub returns-clause-there : goal.returns-clause-there
returns-clause-there c =
    let bs = c.self.inside.buckets.items in
    let walk = c.begin_walk-walk.ensures.walk in
    let spot = c.begin_walk-walk.result.spot in
    let inside = place_inside bs spot.bucket spot.passed (omega (arith, walk.left, c.if-walk-eq0.false)) in
    let before : place_at bs c.self.inside.walk.spot.bucket c.self.inside.walk.spot.passed < length (members_of (get c.self.inside.links) bs) =
    omega (arith, inside, c.begin_walk-walk.ensures.place, c.self.invariant.0.1, c.self.invariant.0.2) in
    rw (← c.self.view_is) (λ is. before, λ here. refl)
