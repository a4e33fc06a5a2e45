use Rattle.std.proofs.Common.{refl, sym, ◌∙◌}
use Rattle.gw_machine.proofs.Knowing.{known-by}
use Rattle.gw_machine.specs.View.{state_of, assembly_of}
use Rattle.gw_machine.proofs.AtSets.{has_begun, more-come, state-come, linked-come}
use Rattle.gw_machine.specs.Shown.{configuration_of}
use Rattle.gw_machine.proofs.machine.Machine.join_assembly.Goals as goal

pub come-requires : goal.come-requires
come-requires c = has_begun (configuration_of c.self.inside) c.self.invariant.0 c.args.assembly (rw (← c.self.view_is) at c.requires.there)

pub returns-else-assembly-le1-clause-state : goal.returns-else-assembly-le1-clause-state
returns-else-assembly-le1-clause-state c =
    rw (← c.self.view_is) (
    state-come (configuration_of c.self.inside) c.self.invariant.0 c.args.assembly (rw (← c.self.view_is) at c.requires.there)
    c.come.new.self.items c.come.ensures.items
    ∙ sym (more-come (assembly_of c.args.assembly) (state_of (configuration_of c.self.inside)) c.if-assembly-le1.false))

pub invariant_of-self : goal.invariant_of-self
invariant_of-self c = (
  linked-come (configuration_of c.self.inside) c.self.invariant.0 c.args.assembly (rw (← c.self.view_is) at c.requires.there)
      c.come.new.self.items c.come.ensures.items
      _ refl refl refl refl refl refl refl refl refl
      (state-come (configuration_of c.self.inside) c.self.invariant.0 c.args.assembly (rw (← c.self.view_is) at c.requires.there)
      c.come.new.self.items c.come.ensures.items),
  known-by c.self.inside.wants (state_of (configuration_of c.self.inside)) _ refl refl refl c.self.invariant.1,
)
