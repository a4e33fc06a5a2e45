use Rattle.std.proofs.Common.{◌∙◌, sym, refl}
use Rattle.gw_machine.proofs.Walks.{handed-first, handed-none}
use Rattle.gw_machine.specs.Shown.{configuration_of}
use Rattle.gw_machine.proofs.machine.Machine.hand_over.Goals as goal

pub returns-in-Some : goal.returns-in-Some
returns-in-Some c = rw (← c.self.view_is) (
  (rw (← c.self.view_is) at c.hand_over_to.ensures.0)
      ∙ sym (handed-first c.args.blocks.now (configuration_of c.self.inside) c.args.f (rw (← c.self.view_is) at c.requires.there)
      c.in-Some.tx (sym c.in-Some.ensures)),
  (rw (← c.self.view_is) at c.hand_over_to.ensures.1),
)

pub returns-in_default : goal.returns-in_default
returns-in_default c = rw (← c.self.view_is)
    (sym (handed-none c.args.blocks.now (configuration_of c.self.inside) c.args.f (rw (← c.self.view_is) at c.requires.there) (sym c.in_default.ensures)), refl)
