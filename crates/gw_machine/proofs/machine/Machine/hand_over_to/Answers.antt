use Rattle.std.proofs.Common.{rules, ◌≡◌, ℕ, Option, Some, None, true, [], refl, subst, arith}
use Rattle.gw_num.specs.Table.{at}
use Rattle.gw_object.specs.declared.blocks.Block.{Block}
use Rattle.gw_rules.specs.Kinds.{block_at}
use Rattle.gw_transactions.specs.Transactions.{Holds}
use Rattle.gw_step.specs.Blocks.{is_seize}
use Rattle.gw_step.proofs.Follows.{block_below}
use Rattle.gw_machine.specs.Configuration.{Configuration}
use Rattle.gw_machine.specs.Shown.{configuration_of}
use Rattle.gw_machine.proofs.Waiters.{ranked-at}
use Rattle.gw_machine.proofs.machine.Machine.hand_over_to.Goals as goal

-- a block that is a SEIZE is there
seize-there : (f : ℕ) (o : Option Block) → is_seize f o ≡ true → (block : Block) × (o ≡ Some block)
seize-there f None h = absurd cc
seize-there f (Some block) h = (block, refl)

pub get-transaction-requires : goal.get-transaction-requires
get-transaction-requires c =
    let m = configuration_of c.self.inside in
    ranked-at m.transactions c.args.tx (at [] m.waits.lists c.args.f) 0
    (c.self.invariant.0.delay_lists c.args.f (rw (← c.self.view_is) at c.requires.there)) (rw (← c.self.view_is) at c.requires.first)

pub take_over-requires-clause-held : goal.take_over-requires-clause-held
take_over-requires-clause-held c =
    let m = configuration_of c.self.inside in
    subst (λ (m : Configuration). Holds m.transactions c.args.tx) c.self.view_is
    (ranked-at m.transactions c.args.tx (at [] m.waits.lists c.args.f) 0
    (c.self.invariant.0.delay_lists c.args.f (rw (← c.self.view_is) at c.requires.there)) (rw (← c.self.view_is) at c.requires.first))

pub take_over-requires-clause-block : goal.take_over-requires-clause-block
take_over-requires-clause-block c =
    let bs = c.args.blocks.now in
    let next = c.get-transaction.result.now.next in
    let is : is_seize c.args.f (block_at bs next) ≡ true = search rules in
    let there = seize-there c.args.f (block_at bs next) is in
    let below = block_below bs next there.0 there.1 in
    (omega (arith, below, c.requires.steady.within.whole.entries), omega (arith, below, c.requires.steady.fit.few))
