use Rattle.std.proofs.Common.{rules, refl, None, ap, ◌∙◌}
use Rattle.gw_num.specs.Table.{at}
use Rattle.gw_num.proofs.Tables.{at-put}
use Rattle.gw_step.proofs.Attributes.{priority-attributes}
use Rattle.gw_step.specs.State.{priority_in, priority_of}
use Rattle.gw_machine.proofs.Changes.{linked-entered}
use Rattle.gw_step.specs.Times.{parameters_of}
use Rattle.gw_machine.specs.View.{state_of}
use Rattle.gw_machine.proofs.AtCopies.{parameters-entered}
use Rattle.gw_machine.specs.Shown.{configuration_of}
use Rattle.gw_machine.proofs.Knowing.{known-same, known-entered, forgotten-unless}
use Rattle.gw_machine.proofs.machine.Machine.enter.Goals as goal

pub returns-clause-state : goal.returns-clause-state
returns-clause-state c = rw (← c.self.view_is) (search rules)

pub invariant_of-self : goal.invariant_of-self
invariant_of-self c = (
  linked-entered (configuration_of c.self.inside) _ c.args.tx c.args.transaction c.args.next c.set.ensures.txs c.set.ensures.rest.places
      c.set.ensures.rest.last c.set.ensures.rest.sound refl refl refl
      (record { waits = refl; assemblies = refl; chains = refl; entities = refl; clock = refl })
      (rw (← c.self.view_is) at (returns-clause-state c)) c.requires.block.1 (rw (← c.self.view_is) at c.requires.rank) c.self.invariant.0,
  forgotten-unless c.self.inside.wants c.forget_unless_active.new.self (configuration_of c.self.inside).active c.args.tx
      (state_of (configuration_of c.self.inside)) _ refl c.self.invariant.0.resides c.forget_unless_active.ensures
      (λ none. known-same c.self.inside.wants _ _ (rw (← c.self.view_is) at (returns-clause-state c))
      (known-entered c.self.inside.wants c.args.tx.number c.args.transaction c.args.next (state_of (configuration_of c.self.inside))
      none c.self.invariant.1)),
)

pub returns-clause-rank : goal.returns-clause-rank
returns-clause-rank c =
    let ts = (configuration_of c.self.inside).transactions.txs in
    ap (λ xs. priority_of xs c.args.tx.number) c.set.ensures.txs ∙ ap priority_in (at-put None ts c.args.tx.number _)
    ∙ priority-attributes _ (at None ts c.args.tx.number) (rw (← c.self.view_is) at c.requires.rank) ∙ (rw (← c.self.view_is) at c.requires.rank)

pub returns-clause-parameters : goal.returns-clause-parameters
returns-clause-parameters c =
    rw (← c.self.view_is) (ap (parameters_of c.args.tx.number) (rw (← c.self.view_is) at (returns-clause-state c))
    ∙ parameters-entered c.args.tx.number c.args.transaction c.args.next (state_of (configuration_of c.self.inside)))
