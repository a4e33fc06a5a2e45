use Rattle.gw_machine.proofs.Waiters.{state-walked, linked-walked}
use Rattle.gw_machine.specs.Shown.{configuration_of}
use Rattle.gw_machine.proofs.Knowing.{known-by}
use Rattle.gw_machine.specs.View.{state_of, member_number}
use Rattle.std.proofs.Common.{map, ap, refl}
use Rattle.gw_machine.proofs.machine.Machine.reserve_wait.Goals as goal

pub returns-clause-state : goal.returns-clause-state
returns-clause-state c =
    rw (← c.self.view_is) (state-walked (configuration_of c.self.inside) c.reserve_wait.new.self c.reserve_wait.ensures.lists c.reserve_wait.ensures.retry)

pub invariant_of-self : goal.invariant_of-self
invariant_of-self c = (
  linked-walked (configuration_of c.self.inside) c.self.invariant.0 c.reserve_wait.new.self c.reserve_wait.ensures.lists c.reserve_wait.ensures.retry,
  known-by c.self.inside.wants (state_of (configuration_of c.self.inside)) _ refl
      (ap (map (map member_number)) c.reserve_wait.ensures.lists) refl c.self.invariant.1,
)
