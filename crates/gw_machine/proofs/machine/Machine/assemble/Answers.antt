use Rattle.std.proofs.Common.{◌≡◌, refl, rules}
use Rattle.gw_machine.specs.View.{state_of}
use Rattle.gw_machine.proofs.Knowing.{known-by}
use Rattle.std.proofs.lemmas.Int.{to_z-of_z}
use Rattle.gw_members.specs.Chain.{behind}
use Rattle.gw_members.specs.declared.tx.Member.{Member}
use Rattle.gw_step.specs.State.{priority_of}
use Rattle.gw_machine.proofs.AtSets.{has_begun, waiter-held, priority-found, state-assembled, linked-assembled}
use Rattle.gw_machine.specs.Shown.{configuration_of}
use Rattle.gw_machine.proofs.machine.Machine.assemble.Goals as goal

pub finish-requires : goal.finish-requires
finish-requires c = has_begun (configuration_of c.self.inside) c.self.invariant.0 c.args.assembly (rw (← c.self.view_is) at c.requires.there)

pub get-requires : goal.get-requires
get-requires c = waiter-held (configuration_of c.self.inside) c.self.invariant.0 c.args.assembly
    (rw (← c.self.view_is) at c.requires.there) c.finish.result c.finish.ensures.value

joined : (c : goal.After-insert_behind) → c.insert_behind.new.self.items
    ≡ behind (λ (x : Member). x.priority) (record { tx = c.finish.result.first; priority = c.get.result.now.priority })
    (configuration_of c.self.inside).current_events.items
joined c = search (rules, to_z-of_z)

rank : (c : goal.After-insert_behind) → priority_of (configuration_of c.self.inside).transactions.txs c.finish.result.first.number ≡ c.get.result.now.priority
rank c = priority-found (configuration_of c.self.inside).transactions.txs c.finish.result.first.number c.get.result.now c.get.ensures.value

pub returns-clause-state : goal.returns-clause-state
returns-clause-state c =
    rw (← c.self.view_is) (
      state-assembled (configuration_of c.self.inside) c.self.invariant.0 c.args.assembly (rw (← c.self.view_is) at c.requires.there)
          c.finish.result c.finish.ensures.value c.get.result.now.priority (rank c) c.insert_behind.new.self.items (joined c)
          c.finish.new.self.items c.finish.ensures.items,
      refl,
    )

pub invariant_of-self : goal.invariant_of-self
invariant_of-self c = (
  linked-assembled (configuration_of c.self.inside) c.self.invariant.0 c.args.assembly (rw (← c.self.view_is) at c.requires.there)
      c.finish.result c.finish.ensures.value c.get.result.now.priority (rank c) c.insert_behind.new.self.items (joined c)
      c.finish.new.self.items c.finish.ensures.items
      _ refl refl refl refl refl refl refl refl refl ((rw (← c.self.view_is) at (returns-clause-state c)).0),
  known-by c.self.inside.wants (state_of (configuration_of c.self.inside)) _ refl refl refl c.self.invariant.1,
)
