use Rattle.std.proofs.Common.{rules, ◌≡◌, refl, None, ap, ◌∙◌}
use Rattle.gw_num.specs.Table.{at}
use Rattle.gw_num.proofs.Tables.{at-put}
use Rattle.gw_transactions.specs.Transactions.{put_attributes}
use Rattle.gw_step.proofs.Attributes.{priority-attributes}
use Rattle.gw_step.specs.State.{priority_in, priority_of}
use Rattle.gw_machine.proofs.AtSets.{priority-found}
use Rattle.gw_machine.proofs.Changes.{linked-entered}
use Rattle.gw_step.specs.Times.{parameters_of}
use Rattle.gw_machine.specs.View.{state_of}
use Rattle.gw_machine.proofs.AtCopies.{parameters-entered}
use Rattle.gw_machine.specs.Shown.{configuration_of}
use Rattle.gw_machine.proofs.Knowing.{known-same, known-found}
use Rattle.gw_machine.proofs.machine.Machine.enter_as_found.Goals as goal

written : (c : goal.After-self-1) → c.step_to.new.self.txs
    ≡ put_attributes c.args.tx.number (record c.args.transaction { current = c.args.transaction.next; next = c.args.next })
    (configuration_of c.self.inside).transactions.txs
written c = c.step_to.ensures.txs c.args.transaction (rw (← c.self.view_is) at c.requires.found)

ranked : (c : goal.After-self-1) → priority_of (configuration_of c.self.inside).transactions.txs c.args.tx.number ≡ c.args.transaction.priority
ranked c = priority-found (configuration_of c.self.inside).transactions.txs c.args.tx.number c.args.transaction (rw (← c.self.view_is) at c.requires.found)

pub returns-clause-state : goal.returns-clause-state
returns-clause-state c = rw (← c.self.view_is) (search (rules, written c))

pub invariant_of-self : goal.invariant_of-self
invariant_of-self c = (
  linked-entered (configuration_of c.self.inside) _ c.args.tx c.args.transaction c.args.next (written c) c.step_to.ensures.rest.places
      c.step_to.ensures.rest.last c.step_to.ensures.rest.sound refl refl refl
      (record { waits = refl; assemblies = refl; chains = refl; entities = refl; clock = refl })
      (rw (← c.self.view_is) at (returns-clause-state c)) c.requires.block.1 (ranked c) c.self.invariant.0,
  known-same c.self.inside.wants _ _ (rw (← c.self.view_is) at (returns-clause-state c))
      (known-found c.self.inside.wants c.args.tx.number c.args.transaction c.args.next (state_of (configuration_of c.self.inside))
      (rw (← c.self.view_is) at c.requires.found) c.self.invariant.1),
)

pub returns-clause-rank : goal.returns-clause-rank
returns-clause-rank c =
    let ts = (configuration_of c.self.inside).transactions.txs in
    ap (λ xs. priority_of xs c.args.tx.number) (written c) ∙ ap priority_in (at-put None ts c.args.tx.number _)
    ∙ priority-attributes _ (at None ts c.args.tx.number) (ranked c) ∙ ranked c

pub returns-clause-parameters : goal.returns-clause-parameters
returns-clause-parameters c =
    rw (← c.self.view_is) (ap (parameters_of c.args.tx.number) (rw (← c.self.view_is) at (returns-clause-state c))
    ∙ parameters-entered c.args.tx.number c.args.transaction c.args.next (state_of (configuration_of c.self.inside)))
