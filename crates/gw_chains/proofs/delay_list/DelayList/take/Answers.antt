use Rattle.std.proofs.Common.{◌∙◌, length, ap, arith, neg_ℤ, inl}
use Rattle.std.specs.Prelude.{remove}
use Rattle.std.proofs.lemmas.List.Edits.{length-remove}
use Rattle.slab.specs.Slab.{get}
use Rattle.gw_chains.specs.Buckets.{members_of}
use Rattle.gw_chains.specs.Waiting.{Walked}
use Rattle.gw_chains.specs.Spots.{place_at}
use Rattle.gw_members.specs.declared.tx.Member.{Member}
use Rattle.gw_chains.proofs.Spotting.{is_inside}
use Rattle.gw_chains.proofs.Counting.{counted_fewer}
use Rattle.gw_chains.proofs.delay_list.DelayList.take.Goals as goal

pub unlink-requires-clause-there : goal.unlink-requires-clause-there
unlink-requires-clause-there c =
    let asked = rw (← c.self.view_is) at c.requires in
    is_inside c.self.inside.buckets.items c.begin_walk-walk.result.spot c.begin_walk-walk.ensures.walk.settled
    (omega (arith, asked, c.begin_walk-walk.ensures.place, c.self.invariant.0.1, c.self.invariant.0.2))

pub unlink-requires-clause-here : goal.unlink-requires-clause-here
unlink-requires-clause-here c =
    let walk = c.begin_walk-walk.ensures.walk in
    let asked = rw (← c.self.view_is) at c.requires in
    let inside = is_inside c.self.inside.buckets.items c.begin_walk-walk.result.spot walk.settled
    (omega (arith, asked, c.begin_walk-walk.ensures.place, c.self.invariant.0.1, c.self.invariant.0.2)) in
    walk.here (omega (arith, inside, walk.left))

pub overflow_sub-self : goal.overflow_sub-self
overflow_sub-self c = omega (arith, c.unlink.ensures.total, c.self.invariant.0.2)

pub invariant_of-self : goal.invariant_of-self
invariant_of-self c =
    let asked = rw (← c.self.view_is) at c.requires in
    let left = c.unlink.ensures.members ∙ ap (remove (members_of (get c.self.inside.links) c.self.inside.buckets.items)) c.begin_walk-walk.ensures.place in (
      counted_fewer (λ (m : Member). neg_ℤ m.priority) _ _ _ _ _ _ c.self.invariant.0 asked left c.unlink.ensures.buckets
          c.unlink.ensures.total,
      inl c.walk_at-self-inside.ensures.walk,
    )

pub returns-clause-len : goal.returns-clause-len
returns-clause-len c =
    let asked = rw (← c.self.view_is) at c.requires in
    let left = c.unlink.ensures.members ∙ ap (remove (members_of (get c.self.inside.links) c.self.inside.buckets.items)) c.begin_walk-walk.ensures.place in
    let fewer = length-remove (members_of (get c.self.inside.links) c.self.inside.buckets.items)
    (place_at c.self.inside.buckets.items c.self.inside.walk.spot.bucket c.self.inside.walk.spot.passed) asked in
    omega (arith, ap length left, fewer, ap (λ (v : Walked). length v.members) c.self.view_is)
