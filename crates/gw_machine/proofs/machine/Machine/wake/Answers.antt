use Rattle.std.proofs.Common.{refl, map, ap}
use Rattle.gw_machine.proofs.Retrying.{state-woken, linked-woken}
use Rattle.gw_machine.specs.Shown.{configuration_of}
use Rattle.gw_machine.proofs.Knowing.{known-by}
use Rattle.gw_machine.specs.View.{state_of, member_number}
use Rattle.gw_machine.proofs.machine.Machine.wake.Goals as goal

pub returns-clause-state : goal.returns-clause-state
returns-clause-state c =
    rw (← c.self.view_is) (state-woken (configuration_of c.self.inside) c.self.invariant.0 c.wake_all.new.cec.items c.wake_all.new.self
    c.wake_all.ensures.woken c.wake_all.ensures.retry c.wake_all.ensures.lists)

pub invariant_of-self-2 : goal.invariant_of-self-2
invariant_of-self-2 c = (
  linked-woken (configuration_of c.self.inside) c.self.invariant.0 c.wake_all.new.cec.items c.wake_all.new.self c.wake_all.ensures.woken
      c.wake_all.ensures.retry c.wake_all.ensures.lists
      _ refl refl refl refl refl refl refl refl refl (rw (← c.self.view_is) at (returns-clause-state c)),
  known-by c.self.inside.wants (state_of (configuration_of c.self.inside)) _ refl (ap (map (map member_number)) c.wake_all.ensures.lists)
      refl c.self.invariant.1,
)
