use Rattle.std.proofs.Common.{refl, ◌≡◌, [], subst, ℕ, List}
use Rattle.gw_machine.specs.Wants.{AreTold, JoinsIfKnown}
use Rattle.gw_machine.proofs.AtRest.{few-waits}
use Rattle.gw_num.specs.Table.{at}
use Rattle.std.proofs.lemmas.Int.{to_z-of_z}
use Rattle.gw_members.specs.Chain.{behind}
use Rattle.gw_members.specs.Lists.{apply_at}
use Rattle.gw_members.specs.declared.tx.Member.{Member}
use Rattle.gw_machine.proofs.Waiters.{state-waits, linked-waits}
use Rattle.gw_machine.specs.Shown.{configuration_of}
use Rattle.gw_machine.proofs.Knowing.{known-same, known-joined, next-found, known-few}
use Rattle.gw_machine.specs.View.{state_of}
use Rattle.gw_machine.proofs.machine.Machine.join_delay_list.Goals as goal

joined : (c : goal.After-push_wait) → c.push_wait.new.self.lists
    ≡ apply_at c.args.entity (behind (λ (x : Member). x.priority) (record { tx = c.args.tx; priority = c.args.priority }))
    (configuration_of c.self.inside).waits.lists
joined c = let fits = c.ranges.priority in simp to_z-of_z at c.push_wait.ensures.lists

pub returns : goal.returns
returns c =
    rw (← c.self.view_is) (
      let r = (rw (← c.self.view_is) at c.requires.rests) in
          state-waits (configuration_of c.self.inside) c.self.invariant.0 c.args.entity (rw (← c.self.view_is) at c.requires.entity)
          c.args.tx c.args.priority (rw (← c.self.view_is) at c.requires.rank) r.held r.active c.push_wait.new.self.lists
          c.push_wait.new.self.retry c.push_wait.ensures.retry (joined c),
      refl,
    )

pub invariant_of-self : goal.invariant_of-self
invariant_of-self c = (
  let r = (rw (← c.self.view_is) at c.requires.rests) in
      linked-waits (configuration_of c.self.inside) c.self.invariant.0 c.args.entity (rw (← c.self.view_is) at c.requires.entity) c.args.tx
      c.args.priority (rw (← c.self.view_is) at c.requires.rank) r.held r.active c.push_wait.new.self.lists c.push_wait.new.self.retry
      c.push_wait.ensures.retry (joined c)
      _ refl refl refl refl refl refl refl refl refl refl ((rw (← c.self.view_is) at (returns c)).0),
  known-same c.add_newcomer.new.self _ _ ((rw (← c.self.view_is) at (returns c)).0)
      (known-joined c.self.inside.wants c.add_newcomer.new.self c.args.entity c.add_newcomer.ensures.others c.args.tx.number
      (state_of (configuration_of c.self.inside)) c.get.result.now.next
      (at 0 (configuration_of c.self.inside).entries c.get.result.now.next)
      (next-found c.args.tx.number (configuration_of c.self.inside).transactions.txs c.get.result.now c.get.ensures.value) refl
      (subst (λ (es : List ℕ). JoinsIfKnown c.get.result.now.next (at 0 es c.get.result.now.next)
      (at [] c.self.inside.wants c.args.entity) (at [] c.add_newcomer.new.self c.args.entity)) c.deref.ensures.value
      c.add_newcomer.ensures.here) c.self.invariant.1),
)

pub add_newcomer-requires : goal.add_newcomer-requires
add_newcomer-requires c =
    let m = configuration_of c.self.inside in
    record {
      few = λ told. known-few (at [] c.self.inside.wants c.args.entity) c.args.entity (state_of m) c.get.result.now.next
          (few-waits m c.self.invariant.0 c.args.entity)
          (subst (λ (es : List ℕ). AreTold es (at [] c.self.inside.wants c.args.entity)) c.deref.ensures.value told) (c.self.invariant.1 c.args.entity);
    }
