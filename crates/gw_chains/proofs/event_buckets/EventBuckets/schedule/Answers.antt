use Rattle.std.proofs.Common.{ap, arith}
use Rattle.gw_chains.specs.Events.{Bucketed, room_behind}
use Rattle.gw_members.specs.declared.tx.Event.{Event}
use Rattle.gw_chains.proofs.Counting.{counted_more}
use Rattle.gw_chains.proofs.event_buckets.EventBuckets.schedule.Goals as goal

pub invariant_of-self : goal.invariant_of-self
invariant_of-self c = (
  counted_more (λ (e : Event). e.time) _ _ _ _ _ _ _ c.self.invariant.0 c.insert_member.ensures.gain
      (omega (arith, ap (λ (v : Bucketed). room_behind 0 v) c.self.view_is, c.requires)),
  c.insert_member.ensures.chunks,
  c.insert_member.ensures.spare,
)
