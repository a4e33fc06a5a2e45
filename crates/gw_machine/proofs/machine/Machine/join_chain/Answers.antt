use Rattle.gw_object.specs.declared.blocks.LinkOrder.TheVariants.{Fifo, Lifo}
use Rattle.gw_machine.proofs.AtChains.{joins, linked-joins}
use Rattle.gw_machine.specs.Shown.{configuration_of}
use Rattle.gw_machine.proofs.Knowing.{known-nexts, chained-next}
use Rattle.gw_machine.specs.View.{state_of}
use Rattle.std.proofs.Common.{Some, refl}
use Rattle.gw_machine.proofs.machine.Machine.join_chain.Goals as goal

pub returns-in-Fifo : goal.returns-in-Fifo
returns-in-Fifo c = rw (← c.self.view_is)
    (joins (configuration_of c.self.inside) c.args.tx c.args.link Fifo c.in-Fifo.is c.self.invariant.0
    (rw (← c.self.view_is) at c.requires.rests) (rw (← c.self.view_is) at c.requires.chain) c.put_chain.new.self c.put_chain.ensures.txs
    c.put_chain.ensures.rest c.push_back.new.self c.push_back.ensures.lists)

pub invariant_of-self : goal.invariant_of-self
invariant_of-self c = (
  linked-joins (configuration_of c.self.inside) c.args.tx c.args.link Fifo c.in-Fifo.is c.self.invariant.0
      (rw (← c.self.view_is) at c.requires.rests) (rw (← c.self.view_is) at c.requires.chain) c.put_chain.new.self c.put_chain.ensures.txs
      c.put_chain.ensures.rest c.push_back.new.self c.push_back.ensures.lists,
  known-nexts c.self.inside.wants (state_of (configuration_of c.self.inside)) _
      (chained-next c.args.tx.number (Some c.args.link.chain) (configuration_of c.self.inside).transactions.txs c.put_chain.new.self.txs
      c.put_chain.ensures.txs) refl refl c.self.invariant.1,
)

pub returns-in-Lifo : goal.returns-in-Lifo
returns-in-Lifo c = rw (← c.self.view_is)
    (joins (configuration_of c.self.inside) c.args.tx c.args.link Lifo c.in-Lifo.is c.self.invariant.0
    (rw (← c.self.view_is) at c.requires.rests) (rw (← c.self.view_is) at c.requires.chain) c.put_chain.new.self c.put_chain.ensures.txs
    c.put_chain.ensures.rest c.push_front.new.self c.push_front.ensures.lists)

pub invariant_of-self-in-Lifo : goal.invariant_of-self-in-Lifo
invariant_of-self-in-Lifo c = (
  linked-joins (configuration_of c.self.inside) c.args.tx c.args.link Lifo c.in-Lifo.is c.self.invariant.0
      (rw (← c.self.view_is) at c.requires.rests) (rw (← c.self.view_is) at c.requires.chain) c.put_chain.new.self c.put_chain.ensures.txs
      c.put_chain.ensures.rest c.push_front.new.self c.push_front.ensures.lists,
  known-nexts c.self.inside.wants (state_of (configuration_of c.self.inside)) _
      (chained-next c.args.tx.number (Some c.args.link.chain) (configuration_of c.self.inside).transactions.txs c.put_chain.new.self.txs
      c.put_chain.ensures.txs) refl refl c.self.invariant.1,
)
