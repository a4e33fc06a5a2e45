use Rattle.std.proofs.Common.{refl}
use Rattle.gw_machine.specs.View.{state_of}
use Rattle.gw_machine.proofs.Knowing.{known-by}
use Rattle.gw_machine.proofs.AtRest.{state-awaits, linked-awaits}
use Rattle.gw_machine.specs.Shown.{configuration_of}
use Rattle.gw_machine.proofs.machine.Machine.await_set.Goals as goal

pub returns : goal.returns
returns c = rw (← c.self.view_is) (
  state-awaits (configuration_of c.self.inside) c.args.tx c.args.begins c.self.invariant.0 (rw (← c.self.view_is) at c.requires.rests)
      c.begin.new.self.items c.begin.ensures.items,
  refl,
)

pub invariant_of-self : goal.invariant_of-self
invariant_of-self c = (
  linked-awaits (configuration_of c.self.inside) c.args.tx c.args.begins c.self.invariant.0 (rw (← c.self.view_is) at c.requires.rests)
      c.begin.new.self.items c.begin.ensures.items
      _ refl refl refl refl refl refl refl refl refl ((rw (← c.self.view_is) at (returns c)).0),
  known-by c.self.inside.wants (state_of (configuration_of c.self.inside)) _ refl refl refl c.self.invariant.1,
)
