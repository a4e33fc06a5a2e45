use Rattle.std.proofs.Common.{rules, ◌≡◌, refl, ap, ◌∙◌, ◌+◌, option_map}
use Rattle.std.proofs.lemmas.Int.{to_z-of_z}
use Rattle.gw_transactions.specs.Transactions.{put_attributes}
use Rattle.gw_step.specs.State.{priority_of}
use Rattle.gw_machine.proofs.AtCopies.{linked-ranked, priority-ranked}
use Rattle.gw_machine.specs.Shown.{configuration_of}
use Rattle.gw_machine.proofs.Knowing.{known-same, known-entered}
use Rattle.gw_step.proofs.Residence.{alone}
use Rattle.gw_machine.specs.View.{state_of}
use Rattle.gw_members.specs.declared.tx.Tx.{Tx}
use Rattle.gw_machine.proofs.machine.Machine.enter_with_priority.Goals as goal

written : (c : goal.After-set) → c.set.new.self.txs
    ≡ put_attributes c.args.tx.number
    (record c.args.transaction { current = c.args.transaction.next; next = c.args.transaction.next + 1; priority = c.args.priority })
    (configuration_of c.self.inside).transactions.txs
written c = let fits = c.ranges.priority in simp to_z-of_z at c.set.ensures.txs

pub returns-clause-state : goal.returns-clause-state
returns-clause-state c = rw (← c.self.view_is) (search rules)

pub invariant_of-self : goal.invariant_of-self
invariant_of-self c = (
  linked-ranked (configuration_of c.self.inside) _ c.args.tx (record c.args.transaction { priority = c.args.priority })
      (c.args.transaction.next + 1) (written c) c.set.ensures.rest.places c.set.ensures.rest.last c.set.ensures.rest.sound
      (rw (← c.self.view_is) at c.requires.active) (rw (← c.self.view_is) at c.requires.held) refl refl refl
      (record { waits = refl; assemblies = refl; chains = refl; entities = refl; clock = refl })
      (rw (← c.self.view_is) at (returns-clause-state c)) c.requires.block.1 c.self.invariant.0,
  known-same c.self.inside.wants _ _ (rw (← c.self.view_is) at (returns-clause-state c))
      (known-entered c.self.inside.wants c.args.tx.number (record c.args.transaction { priority = c.args.priority })
      (c.args.transaction.next + 1) (state_of (configuration_of c.self.inside))
      (alone c.args.tx.number (state_of (configuration_of c.self.inside))
      (ap (option_map (λ (x : Tx). x.number)) (rw (← c.self.view_is) at c.requires.active)) c.self.invariant.0.resides).delay_lists c.self.invariant.1),
)

pub returns-clause-rank : goal.returns-clause-rank
returns-clause-rank c =
    ap (λ ts. priority_of ts c.args.tx.number) (written c)
    ∙ priority-ranked (configuration_of c.self.inside).transactions.txs c.args.tx.number c.args.transaction _ (rw (← c.self.view_is) at c.requires.found)
