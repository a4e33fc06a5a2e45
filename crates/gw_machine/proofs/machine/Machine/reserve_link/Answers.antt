use Rattle.gw_machine.proofs.AtChains.{state-roomed, linked-roomed}
use Rattle.std.proofs.Common.{refl}
use Rattle.gw_machine.specs.View.{state_of}
use Rattle.gw_machine.proofs.Knowing.{known-by}
use Rattle.gw_machine.specs.Shown.{configuration_of}
use Rattle.gw_machine.proofs.machine.Machine.reserve_link.Goals as goal

pub returns-clause-state : goal.returns-clause-state
returns-clause-state c = rw (← c.self.view_is) (state-roomed (configuration_of c.self.inside) c.reserve_link.new.self c.reserve_link.ensures.lists)

pub invariant_of-self : goal.invariant_of-self
invariant_of-self c = (
  linked-roomed (configuration_of c.self.inside) c.self.invariant.0 c.reserve_link.new.self c.reserve_link.ensures.lists,
  known-by c.self.inside.wants (state_of (configuration_of c.self.inside)) _ refl refl refl c.self.invariant.1,
)
