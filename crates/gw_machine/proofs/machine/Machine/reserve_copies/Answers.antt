use Rattle.std.proofs.Common.{refl}
use Rattle.gw_machine.proofs.Changes.{linked-reserved}
use Rattle.gw_machine.specs.Shown.{configuration_of}
use Rattle.gw_machine.proofs.Knowing.{known-by}
use Rattle.gw_machine.specs.View.{state_of}
use Rattle.gw_machine.proofs.machine.Machine.reserve_copies.Goals as goal

pub invariant_of-self : goal.invariant_of-self
invariant_of-self c = let e = c.reserve.ensures in (
  linked-reserved (configuration_of c.self.inside) c.reserve.new.self (configuration_of c.self.inside).current_events e.txs e.places e.last
      e.sound refl c.self.invariant.0,
  known-by c.self.inside.wants (state_of (configuration_of c.self.inside)) _ e.txs refl refl c.self.invariant.1,
)

pub invariant_of-self-in_err-reserve-2 : goal.invariant_of-self-in_err-reserve-2
invariant_of-self-in_err-reserve-2 c = let e = c.reserve.ensures in (
  linked-reserved (configuration_of c.self.inside) c.reserve.new.self c.reserve-2.new.self e.txs e.places e.last e.sound
      c.reserve-2.ensures.items c.self.invariant.0,
  known-by c.self.inside.wants (state_of (configuration_of c.self.inside)) _ e.txs refl refl c.self.invariant.1,
)

pub invariant_of-self-2 : goal.invariant_of-self-2
invariant_of-self-2 c = let e = c.reserve.ensures in (
  linked-reserved (configuration_of c.self.inside) c.reserve.new.self c.reserve-2.new.self e.txs e.places e.last e.sound
      c.reserve-2.ensures.items c.self.invariant.0,
  known-by c.self.inside.wants (state_of (configuration_of c.self.inside)) _ e.txs refl refl c.self.invariant.1,
)
