use Rattle.std.proofs.Common.{ap, refl}
use Rattle.gw_chains.specs.Chunks.{all_of}
use Rattle.gw_chains.specs.Buckets.{AreCounted}
use Rattle.gw_members.specs.declared.tx.Event.{Event}
use Rattle.gw_chains.proofs.Counting.{in_slots}
use Rattle.gw_chains.proofs.event_buckets.EventBuckets.reserve.Goals as goal

pub invariant_of-self : goal.invariant_of-self
invariant_of-self c = (
  in_slots (λ S bs. AreCounted (λ (e : Event). e.time) S bs c.self.inside.count) _ _ _ _ c.reserve_links.ensures.slots refl c.self.invariant.0,
  c.self.invariant.1,
  c.self.invariant.2,
)

pub invariant_of-self-2 : goal.invariant_of-self-2
invariant_of-self-2 c =
    let chunks = c.reserve.ensures.items in (
      in_slots (λ S bs. AreCounted (λ (e : Event). e.time) S bs c.self.inside.count) _ _ _ _ c.reserve_links.ensures.slots
          (ap all_of chunks) c.self.invariant.0,
      rw chunks c.self.invariant.1,
      c.reserve.ensures.spare,
    )
