use Rattle.gw_chains.proofs.Counting.{in_slots}
use Rattle.gw_chains.proofs.Heads.{IsHeaded}
use Rattle.gw_chains.proofs.cec.Cec.reserve.Goals as goal

pub invariant_of-self : goal.invariant_of-self
invariant_of-self c =
    in_slots (λ S bs. IsHeaded c.self.inside.head S bs c.self.inside.others) _ _ _ _ c.reserve.ensures.slots c.reserve.ensures.items c.self.invariant
