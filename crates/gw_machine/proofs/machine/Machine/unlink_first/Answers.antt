use Rattle.std.proofs.Common.{◌≡◌, sym, rules, refl}
use Rattle.std.proofs.lemmas.Int.{to_z-of_z}
use Rattle.gw_members.specs.Chain.{behind}
use Rattle.gw_members.specs.declared.tx.Member.{Member}
use Rattle.gw_transactions.specs.Transactions.{put_attributes}
use Rattle.gw_machine.proofs.AtChains.{first-held, first-block, lists-empty, state-empty, linked-roomed, state-unlinks, linked-unlinks}
use Rattle.gw_machine.specs.Shown.{configuration_of}
use Rattle.gw_machine.proofs.Knowing.{known-apart, unlinked-same, chained-apart, first-chained, known-by}
use Rattle.gw_machine.specs.View.{state_of}
use Rattle.gw_machine.proofs.machine.Machine.unlink_first.Goals as goal

pub get-member-requires : goal.get-member-requires
get-member-requires c = first-held (configuration_of c.self.inside) c.self.invariant.0 c.args.chain c.args.target
    (rw (← c.self.view_is) at c.requires.chain) c.in-Some.tx (sym c.in-Some.ensures.first)

pub set-requires-clause-block : goal.set-requires-clause-block
set-requires-clause-block c =
    first-block (configuration_of c.self.inside) c.self.invariant.0 c.args.chain c.args.target (rw (← c.self.view_is) at c.requires.chain)
    c.in-Some.tx (sym c.in-Some.ensures.first) c.get-member.result.now c.get-member.ensures.value

joined : (c : goal.After-insert_behind) → c.insert_behind.new.self.items
    ≡ behind (λ (x : Member). x.priority) (record { tx = c.in-Some.tx; priority = c.get-member.result.now.priority })
    (configuration_of c.self.inside).current_events.items
joined c = search (rules, to_z-of_z)

written : (c : goal.After-insert_behind) → c.set.new.self.txs
    ≡ put_attributes c.in-Some.tx.number (record c.get-member.result.now { next = c.args.target }) (configuration_of c.self.inside).transactions.txs
written c = search rules

pub returns-in-Some-clause-state : goal.returns-in-Some-clause-state
returns-in-Some-clause-state c =
    rw (← c.self.view_is) (
    state-unlinks (configuration_of c.self.inside) c.self.invariant.0 c.args.chain c.args.target
    (rw (← c.self.view_is) at c.requires.chain) c.in-Some.tx (sym c.in-Some.ensures.first) c.get-member.result.now c.get-member.ensures.value
    c.set.new.self c.put_chain.new.self (written c) c.set.ensures.rest.places c.put_chain.ensures.txs c.put_chain.ensures.rest.places
    c.set.ensures.rest.last c.put_chain.ensures.rest.last c.put_chain.ensures.rest.sound
    c.insert_behind.new.self (joined c) c.unlink.new.self c.in-Some.ensures.lists)

pub invariant_of-self : goal.invariant_of-self
invariant_of-self c = (
  linked-unlinks (configuration_of c.self.inside) c.self.invariant.0 c.args.chain c.args.target (rw (← c.self.view_is) at c.requires.chain)
      c.in-Some.tx (sym c.in-Some.ensures.first) c.get-member.result.now c.get-member.ensures.value
      c.set.new.self c.put_chain.new.self (written c) c.set.ensures.rest.places c.put_chain.ensures.txs c.put_chain.ensures.rest.places
      c.set.ensures.rest.last c.put_chain.ensures.rest.last c.put_chain.ensures.rest.sound
      c.insert_behind.new.self (joined c) c.unlink.new.self c.in-Some.ensures.lists,
  known-apart c.self.inside.wants c.in-Some.tx.number (state_of (configuration_of c.self.inside)) _
      (unlinked-same c.in-Some.tx.number (record c.get-member.result.now { next = c.args.target })
      (configuration_of c.self.inside).transactions.txs c.set.new.self.txs c.put_chain.new.self.txs (written c) c.put_chain.ensures.txs) refl refl
      (chained-apart c.args.chain c.in-Some.tx.number (state_of (configuration_of c.self.inside)) c.self.invariant.0.resides
      (first-chained (configuration_of c.self.inside) c.args.chain c.in-Some.tx (sym c.in-Some.ensures.first))) c.self.invariant.1,
)

pub returns-in_default-clause-state : goal.returns-in_default-clause-state
returns-in_default-clause-state c =
    rw (← c.self.view_is) (
    state-empty (configuration_of c.self.inside) c.self.invariant.0 c.args.chain c.args.target (rw (← c.self.view_is) at c.requires.chain)
    c.unlink.new.self c.in_default.ensures.lists (sym c.in_default.ensures.first))

pub invariant_of-self-in_default : goal.invariant_of-self-in_default
invariant_of-self-in_default c = (
  linked-roomed (configuration_of c.self.inside) c.self.invariant.0 c.unlink.new.self
      (lists-empty (configuration_of c.self.inside) c.self.invariant.0 c.args.chain c.args.target
      (rw (← c.self.view_is) at c.requires.chain) c.unlink.new.self c.in_default.ensures.lists (sym c.in_default.ensures.first)),
  known-by c.self.inside.wants (state_of (configuration_of c.self.inside)) _ refl refl refl c.self.invariant.1,
)
