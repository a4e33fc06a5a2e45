use Rattle.std.proofs.Common.{refl, w32}
use Rattle.gw_machine.proofs.Knowing.{known-by}
use Rattle.std.specs.Prelude.{int_le}
use Rattle.std.proofs.lemmas.Int.{to_z-of_z}
use Rattle.gw_step.proofs.Residence.{resides-behind}
use Rattle.gw_machine.specs.View.{state_of}
use Rattle.gw_machine.proofs.AtRest.{state-joined, linked-joined}
use Rattle.gw_machine.specs.Shown.{configuration_of}
use Rattle.gw_machine.proofs.machine.Machine.rest_behind.Goals as goal

pub returns : goal.returns
returns c = rw (← c.self.view_is) (
  state-joined (configuration_of c.self.inside) c.args.tx c.args.priority c.self.invariant.0 (rw (← c.self.view_is) at c.requires.rests)
      (rw (← c.self.view_is) at c.requires.rank) int_le c.insert_behind.new.self.items _ (to_z-of_z w32 c.args.priority c.ranges.priority)
      c.insert_behind.ensures.items,
  refl,
)

pub invariant_of-self : goal.invariant_of-self
invariant_of-self c = (
  linked-joined (configuration_of c.self.inside) c.args.tx c.args.priority c.self.invariant.0 (rw (← c.self.view_is) at c.requires.rests)
      (rw (← c.self.view_is) at c.requires.rank) int_le c.insert_behind.new.self.items _ (to_z-of_z w32 c.args.priority c.ranges.priority)
      c.insert_behind.ensures.items _ refl refl refl refl refl refl refl refl refl (rw (← c.self.view_is) at (returns c)).0
      (resides-behind c.args.tx.number (state_of (configuration_of c.self.inside))),
  known-by c.self.inside.wants (state_of (configuration_of c.self.inside)) _ refl refl refl c.self.invariant.1,
)
