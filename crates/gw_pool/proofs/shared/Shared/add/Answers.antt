use Rattle.gw_pool.proofs.Booked.{adds_booked}
use Rattle.gw_pool.proofs.shared.Shared.add.Goals as goal

pub invariant_of-self : goal.invariant_of-self
invariant_of-self g c = (
  adds_booked c.add.result _ _ _ _ _ _ c.self.invariant.0 c.add.ensures.event c.add.ensures.same,
  c.self.invariant.1,
)
