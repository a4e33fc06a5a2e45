use Rattle.std.proofs.Common.{neg_ℤ}
use Rattle.gw_chains.specs.Buckets.{AreCounted}
use Rattle.gw_chains.specs.Spots.{IsWalkOrBegins}
use Rattle.gw_members.specs.declared.tx.Member.{Member}
use Rattle.gw_chains.proofs.Counting.{in_slots}
use Rattle.gw_chains.proofs.delay_list.DelayList.reserve.Goals as goal

pub invariant_of-self : goal.invariant_of-self
invariant_of-self c =
    in_slots (λ S bs. AreCounted (λ (m : Member). neg_ℤ m.priority) S bs c.self.inside.count × IsWalkOrBegins S bs c.self.inside.walk) _ _
    _ _ c.reserve.ensures.slots c.reserve.ensures.items c.self.invariant
