use Rattle.std.proofs.Common.{◌≡◌, ◌∙◌, ◌+◌, ◌<◌, ◌≤◌, List, [], ◌++◌, length, reverse, sym, ap, subst, arith}
use Rattle.std.specs.Prelude.{AllPairs}
use Rattle.std.specs.Vec.{vec_capacity}
use Rattle.std.proofs.lemmas.List.{nil_from_length, length-append, length-reverse}
use Rattle.gw_members.specs.Chain.{Chain}
use Rattle.gw_members.specs.declared.tx.Event.{Event}
use Rattle.gw_chains.specs.Events.{NotLater, room_for_events}
use Rattle.gw_chains.proofs.Places.{placed_in_order, ranks_in_time, length-placed}
use Rattle.gw_chains.proofs.Few.{some_space, room_joined, within_memory}
use Rattle.gw_chains.proofs.fec.Fec.schedule.Goals as goal

pub invariant_of-self : goal.invariant_of-self
invariant_of-self c =
    let few = c.self.inside.few.items in
    let many = c.self.inside.many.items in
    let space = some_space (length many) (vec_capacity c.self.inside.few) (length few)
    (subst (λ n. 0 < n) c.space_beside.ensures c.if-space_beside-gt0.true) in (
      omega (arith, space.1, c.insert_in_time.ensures.len),
      subst (AllPairs NotLater) (sym c.insert_in_time.ensures.items)
          (placed_in_order NotLater _ _ (reverse few) (ranks_in_time (λ (e : Event). e.time) _) c.self.invariant.1),
      λ some. nil_from_length many space.0,
      c.self.invariant.3,
    )

pub invariant_of-self-else-space_beside-gt0 : goal.invariant_of-self-else-space_beside-gt0
invariant_of-self-else-space_beside-gt0 c =
    let few = c.self.inside.few.items in
    let many = c.self.inside.many in
    let none : c.schedule_in_buckets.new.few.items ≡ [] = c.schedule_in_buckets.ensures.few in
    let room : 0 < room_for_events (vec_capacity c.self.inside.few) (length few) many =
    subst (λ n. 0 < n) (sym (ap (λ (v : Chain Event). v.room) c.self.view_is)) c.requires in
    let within = within_memory many (vec_capacity c.self.inside.few) (length few) room
    (subst (λ n. n ≤ 0) c.space_beside.ensures c.if-space_beside-gt0.false) in
    let more : length c.schedule_in_buckets.new.many.items ≡ length (reverse few ++ many.items) + 1 =
    ap length c.schedule_in_buckets.ensures.items ∙ length-placed _ _ (reverse few ++ many.items) in (
      omega (arith, ap length none),
      subst (λ (xs : List Event). AllPairs NotLater (reverse xs)) (sym none) (λ i j d less below. absurd (omega (arith, below))),
      λ some. absurd (omega (arith, some, ap length none)),
      omega (arith, more, length-append (reverse few) many.items, length-reverse few, within),
    )

pub returns-then-space_beside-gt0-clause-room : goal.returns-then-space_beside-gt0-clause-room
returns-then-space_beside-gt0-clause-room c =
    rw (← ap (λ (v : Chain Event). v.room) c.self.view_is)
    (room_joined c.self.inside.many (vec_capacity c.self.inside.few) (vec_capacity c.insert_in_time.new.few)
    (length c.self.inside.few.items) (length c.insert_in_time.new.few.items) c.insert_in_time.ensures.len
    (omega (arith, c.insert_in_time.ensures.capacity)))
