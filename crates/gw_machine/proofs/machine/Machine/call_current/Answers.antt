use Rattle.std.proofs.Common.{[], ◌≡◌, refl, sym, ◌∙◌, ap}
use Rattle.gw_machine.proofs.Walks.{left-place}
use Rattle.std.specs.Prelude.{remove}
use Rattle.std.proofs.lemmas.Int.{to_z-of_z}
use Rattle.gw_members.specs.Chain.{behind}
use Rattle.gw_num.specs.Table.{at}
use Rattle.gw_members.specs.declared.tx.Member.{Member}
use Rattle.gw_machine.proofs.Waiters.{ranked-at, changed-here, state-called, linked-called, occurs-there}
use Rattle.gw_machine.specs.Shown.{configuration_of}
use Rattle.gw_machine.proofs.Knowing.{known-same, known-left, next-found}
use Rattle.gw_machine.specs.View.{state_of}
use Rattle.gw_machine.proofs.machine.Machine.call_current.Goals as goal

joined : (c : goal.After-insert_behind) → c.insert_behind.new.self.items
    ≡ behind (λ (x : Member). x.priority) (record { tx = c.args.tx; priority = c.args.priority }) (configuration_of c.self.inside).current_events.items
joined c = let fits = c.ranges.priority in simp to_z-of_z at c.insert_behind.ensures.items

pub returns-clause-state : goal.returns-clause-state
returns-clause-state c =
    rw (← c.self.view_is) (
    state-called (configuration_of c.self.inside) c.self.invariant.0 c.args.entity (rw (← c.self.view_is) at c.requires.entity) c.args.tx
    c.args.priority (rw (← c.self.view_is) at c.requires.rank) (at 0 (configuration_of c.self.inside).waits.places c.args.entity)
    (rw (← c.self.view_is) at c.requires.there) c.take.new.self.lists c.take.new.self.retry c.take.ensures.retry c.take.ensures.lists
    c.insert_behind.new.self.items (joined c))

pub invariant_of-self : goal.invariant_of-self
invariant_of-self c = (
  linked-called (configuration_of c.self.inside) c.self.invariant.0 c.args.entity (rw (← c.self.view_is) at c.requires.entity) c.args.tx
      c.args.priority (rw (← c.self.view_is) at c.requires.rank) (at 0 (configuration_of c.self.inside).waits.places c.args.entity)
      (rw (← c.self.view_is) at c.requires.there) c.take.new.self.lists c.take.new.self.retry c.take.ensures.retry c.take.ensures.lists _
      (ranked-at (configuration_of c.self.inside).transactions c.args.tx (at [] (configuration_of c.self.inside).waits.lists c.args.entity)
      (at 0 (configuration_of c.self.inside).waits.places c.args.entity)
      (c.self.invariant.0.delay_lists c.args.entity (rw (← c.self.view_is) at c.requires.entity)) (rw (← c.self.view_is) at c.requires.there))
      refl refl (joined c) refl refl refl refl refl refl refl (rw (← c.self.view_is) at (returns-clause-state c)),
  known-same c.drop_leaver.new.self _ _ (rw (← c.self.view_is) at (returns-clause-state c))
      (known-left c.self.inside.wants c.drop_leaver.new.self c.args.entity c.drop_leaver.ensures.others c.args.tx.number
      (state_of (configuration_of c.self.inside)) c.get.result.now.next c.entry_or_none-entries.result
      (next-found c.args.tx.number (configuration_of c.self.inside).transactions.txs c.get.result.now c.get.ensures.value)
      (ap (λ es. at 0 es c.get.result.now.next) (sym c.deref.ensures.value) ∙ sym c.entry_or_none-entries.ensures) c.drop_leaver.ensures.here
      (occurs-there (configuration_of c.self.inside) c.self.invariant.0 c.args.entity (rw (← c.self.view_is) at c.requires.entity)
      c.args.tx c.args.priority (rw (← c.self.view_is) at c.requires.rank)
      (at 0 (configuration_of c.self.inside).waits.places c.args.entity) (rw (← c.self.view_is) at c.requires.there)
      c.take.new.self.lists c.take.new.self.retry c.take.ensures.retry c.take.ensures.lists) c.self.invariant.1),
)

pub returns-clause-left : goal.returns-clause-left
returns-clause-left c = rw (← c.self.view_is)
    (changed-here c.args.entity (λ xs. remove xs (at 0 (configuration_of c.self.inside).waits.places c.args.entity))
    (configuration_of c.self.inside).waits.lists c.take.new.self.lists c.take.ensures.lists)

pub get-requires : goal.get-requires
get-requires c =
    let m = configuration_of c.self.inside in
    ranked-at m.transactions c.args.tx (at [] m.waits.lists c.args.entity)
    (at 0 (configuration_of c.self.inside).waits.places c.args.entity)
    (c.self.invariant.0.delay_lists c.args.entity (rw (← c.self.view_is) at c.requires.entity)) (rw (← c.self.view_is) at c.requires.there)

pub take-requires-clause-place : goal.take-requires-clause-place
take-requires-clause-place c =
    left-place c.args.entity (at 0 (configuration_of c.self.inside).waits.places c.args.entity) (configuration_of c.self.inside) c.args.tx
    (rw (← c.self.view_is) at c.requires.there)
