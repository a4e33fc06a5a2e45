use Rattle.std.proofs.Common.{rules, ◌≡◌, ◌+◌, Some, [], subst, arith}
use Rattle.gw_num.specs.Table.{at}
use Rattle.gw_machine.specs.View.{state_of}
use Rattle.gw_object.specs.declared.blocks.Block.TheVariants as blocks
use Rattle.gw_rules.specs.Kinds.{block_at}
use Rattle.gw_step.specs.Blocks.{units_asked, looked_at}
use Rattle.gw_step.proofs.Follows.{asked-enter, block_below}
use Rattle.gw_transactions.specs.Transactions.{Holds}
use Rattle.gw_machine.specs.Configuration.{Configuration}
use Rattle.gw_machine.specs.Shown.{configuration_of}
use Rattle.gw_machine.proofs.Waiters.{ranked-at}
use Rattle.gw_machine.proofs.Walks.{steady-looked_at}
use Rattle.gw_machine.proofs.machine.Machine.admit_one.Goals as goal

state_is : (c : goal.After-enter_if_free) → state_of c.enter_if_free.new.self ≡ looked_at c.args.blocks.now c.args.e c.args.tx.number (state_of c.args.self.now)
state_is c = search rules

pub get-transaction-requires : goal.get-transaction-requires
get-transaction-requires c =
    let m = configuration_of c.self.inside in
    let e = c.args.e in
    ranked-at m.transactions c.args.tx (at [] m.waits.lists e) (at 0 m.waits.places e)
    (c.self.invariant.0.delay_lists e (rw (← c.self.view_is) at c.requires.there)) (rw (← c.self.view_is) at c.requires.waiter)

pub enter_if_free-requires-clause-held : goal.enter_if_free-requires-clause-held
enter_if_free-requires-clause-held c =
    let m = configuration_of c.self.inside in
    let e = c.args.e in
    subst (λ (m : Configuration). Holds m.transactions c.args.tx) c.self.view_is
    (ranked-at m.transactions c.args.tx (at [] m.waits.lists e) (at 0 m.waits.places e)
    (c.self.invariant.0.delay_lists e (rw (← c.self.view_is) at c.requires.there)) (rw (← c.self.view_is) at c.requires.waiter))

pub returns-in-Some-clause-steady : goal.returns-in-Some-clause-steady
returns-in-Some-clause-steady c =
    steady-looked_at c.args.blocks.now c.args.self.now c.args.e c.requires.there (c.args.self.now.steps + 1) c.requires.steady
    (at 0 c.args.self.now.waits.places c.args.e) c.args.tx c.requires.waiter c.enter_if_free.new.self (state_is c) c.enter_if_free.ensures.frame.1

pub enter_if_free-requires-clause-block : goal.enter_if_free-requires-clause-block
enter_if_free-requires-clause-block c =
    let bs = c.args.blocks.now in
    let next = c.get-transaction.result.now.next in
    let is : units_asked c.args.e (block_at bs next) ≡ Some c.in-Some.units = search rules in
    let below = block_below bs next (blocks.Enter c.in-Some.units) (asked-enter c.args.e (block_at bs next) c.in-Some.units is).0 in
    (omega (arith, below, c.requires.steady.within.whole.entries), omega (arith, below, c.requires.steady.fit.few))
