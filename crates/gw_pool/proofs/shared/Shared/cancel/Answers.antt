use Rattle.gw_pool.proofs.Booked.{cancels_booked}
use Rattle.gw_pool.proofs.shared.Shared.cancel.Goals as goal

pub invariant_of-self : goal.invariant_of-self
invariant_of-self g c = (
  cancels_booked c.cancel.result _ _ _ _ _ c.self.invariant.0 c.cancel.ensures.event c.cancel.ensures.same,
  c.self.invariant.1,
)
