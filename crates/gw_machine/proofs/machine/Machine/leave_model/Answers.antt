use Rattle.std.proofs.Common.{rules, refl, option_map, ap}
use Rattle.gw_machine.proofs.Changes.{linked-destroyed}
use Rattle.gw_machine.specs.Shown.{configuration_of}
use Rattle.gw_machine.proofs.Knowing.{known-apart, written-same}
use Rattle.gw_step.proofs.Residence.{alone}
use Rattle.gw_machine.specs.View.{state_of}
use Rattle.gw_members.specs.declared.tx.Tx.{Tx}
use Rattle.gw_machine.proofs.machine.Machine.leave_model.Goals as goal

pub returns : goal.returns
returns c = rw (← c.self.view_is) (search rules, c.remove.ensures.last)

pub invariant_of-self : goal.invariant_of-self
invariant_of-self c = (
  linked-destroyed (configuration_of c.self.inside) _ c.args.tx c.remove.ensures.txs c.remove.ensures.places c.remove.ensures.last
      c.remove.ensures.sound c.self.invariant.0 (rw (← c.self.view_is) at c.requires.rests) refl refl refl
      (record { waits = refl; assemblies = refl; chains = refl; entities = refl; clock = refl }) ((rw (← c.self.view_is) at (returns c)).0),
  known-apart c.self.inside.wants c.args.tx.number (state_of (configuration_of c.self.inside)) _
      (written-same c.args.tx.number (configuration_of c.self.inside).transactions.txs _ _ c.remove.ensures.txs) refl refl
      (alone c.args.tx.number (state_of (configuration_of c.self.inside))
      (ap (option_map (λ (x : Tx). x.number)) (rw (← c.self.view_is) at c.requires.rests.active))
      c.self.invariant.0.resides).delay_lists c.self.invariant.1,
)
