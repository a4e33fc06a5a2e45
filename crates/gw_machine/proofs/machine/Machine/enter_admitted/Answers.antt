use Rattle.std.proofs.Common.{rules, ◌≡◌, refl, ap, ◌∙◌, ◌+◌, sym, arith}
use Rattle.gw_num.specs.Table.{at}
use Rattle.gw_transactions.specs.Transactions.{put_attributes}
use Rattle.gw_step.specs.State.{priority_of}
use Rattle.gw_machine.proofs.AtSets.{priority-found}
use Rattle.gw_machine.proofs.Changes.{linked-entered}
use Rattle.gw_machine.specs.View.{state_of}
use Rattle.gw_machine.specs.Shown.{configuration_of}
use Rattle.gw_machine.proofs.Knowing.{known-same, known-admitted, called-apart, entry-within}
use Rattle.gw_machine.proofs.machine.Machine.enter_admitted.Goals as goal

written : (c : goal.After-step_to) → c.step_to.new.self.txs
    ≡ put_attributes c.args.tx.number (record c.args.transaction { current = c.args.transaction.next; next = c.args.transaction.next + 1 })
    (configuration_of c.self.inside).transactions.txs
written c = c.step_to.ensures.txs c.args.transaction (rw (← c.self.view_is) at c.requires.found)

ranked : (c : goal.After-step_to) → priority_of (configuration_of c.self.inside).transactions.txs c.args.tx.number ≡ c.args.transaction.priority
ranked c = priority-found (configuration_of c.self.inside).transactions.txs c.args.tx.number c.args.transaction (rw (← c.self.view_is) at c.requires.found)

pub returns-clause-state : goal.returns-clause-state
returns-clause-state c = rw (← c.self.view_is) (search (rules, written c))

pub invariant_of-self : goal.invariant_of-self
invariant_of-self c = (
  linked-entered (configuration_of c.self.inside) _ c.args.tx c.args.transaction (c.args.transaction.next + 1) (written c)
      c.step_to.ensures.rest.places c.step_to.ensures.rest.last c.step_to.ensures.rest.sound refl refl refl
      (record { waits = refl; assemblies = refl; chains = refl; entities = refl; clock = refl })
      (rw (← c.self.view_is) at (returns-clause-state c)) c.requires.block.1 (ranked c) c.self.invariant.0,
  known-same c.tell_entry.new.self _ _ (rw (← c.self.view_is) at (returns-clause-state c))
      (known-admitted c.self.inside.wants c.tell_entry.new.self c.args.e c.tell_entry.ensures.others c.args.tx.number c.args.transaction
      (c.args.transaction.next + 1) (state_of (configuration_of c.self.inside)) c.entry_or_none-entries.result
      (ap (λ es. at 0 es c.args.transaction.next) (sym c.deref.ensures.value) ∙ sym c.entry_or_none-entries.ensures)
      (called-apart c.args.tx.number (state_of (configuration_of c.self.inside)) c.self.invariant.0.resides
      (rw (← c.self.view_is) at c.requires.called)) c.tell_entry.ensures.here c.self.invariant.1),
)

pub tell_entry-requires : goal.tell_entry-requires
tell_entry-requires c =
    let es = (configuration_of c.self.inside).entries in
    let is : c.entry_or_none-entries.result ≡ at 0 es c.args.transaction.next = c.entry_or_none-entries.ensures
    ∙ ap (λ es. at 0 es c.args.transaction.next) c.deref.ensures.value in
    record { few = omega (arith, is, entry-within es c.args.transaction.next, (rw (← c.self.view_is) at c.requires.few)) }
