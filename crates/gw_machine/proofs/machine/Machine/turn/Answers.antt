use Rattle.std.proofs.Common.{rules, refl}
use Rattle.gw_machine.proofs.Turning.{current-found, linked-turned}
use Rattle.gw_machine.specs.Shown.{configuration_of}
use Rattle.gw_machine.proofs.Knowing.{known-same, known-turned, forgotten-unless}
use Rattle.gw_machine.specs.View.{state_of}
use Rattle.gw_machine.proofs.machine.Machine.turn.Goals as goal

pub set-requires-clause-block : goal.set-requires-clause-block
set-requires-clause-block c =
    current-found (configuration_of c.self.inside).transactions.txs c.args.tx.number c.args.transaction c.self.invariant.0.blocks
    (rw (← c.self.view_is) at c.requires.found)

pub returns-clause-state : goal.returns-clause-state
returns-clause-state c = rw (← c.self.view_is) (search rules)

pub invariant_of-self : goal.invariant_of-self
invariant_of-self c = (
  linked-turned (configuration_of c.self.inside) _ c.args.tx c.args.transaction c.args.next c.set.ensures.txs c.set.ensures.rest.places
      c.set.ensures.rest.last c.set.ensures.rest.sound refl refl refl
      (record { waits = refl; assemblies = refl; chains = refl; entities = refl; clock = refl })
      (rw (← c.self.view_is) at (returns-clause-state c)) (rw (← c.self.view_is) at c.requires.found) c.self.invariant.0,
  forgotten-unless c.self.inside.wants c.forget_unless_active.new.self (configuration_of c.self.inside).active c.args.tx
      (state_of (configuration_of c.self.inside)) _ refl c.self.invariant.0.resides c.forget_unless_active.ensures
      (λ none. known-same c.self.inside.wants _ _ (rw (← c.self.view_is) at (returns-clause-state c))
      (known-turned c.self.inside.wants c.args.tx.number c.args.transaction c.args.next (state_of (configuration_of c.self.inside))
      none c.self.invariant.1)),
)
