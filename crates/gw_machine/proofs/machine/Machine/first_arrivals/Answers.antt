use Rattle.std.proofs.Common.{◌+◌, List, None, pos, length, get_or, sym, ap, ◌∙◌, subst, arith}
use Rattle.gw_object.specs.declared.blocks.Operand.TheVariants.{Constant}
use Rattle.gw_object.specs.declared.blocks.Block.{Block}
use Rattle.gw_object.specs.declared.blocks.Block.TheVariants as blocks
use Rattle.gw_step.specs.Start.{first_arrival}
use Rattle.gw_machine.specs.View.{state_of}
use Rattle.gw_machine.specs.declared.entity_tables.EntityTables.{EntityTables}
use Rattle.gw_machine.specs.Leaving.{Schedules}
use Rattle.gw_machine.proofs.Starting.{block_here, stops, continues, is_done}
use Rattle.gw_machine.proofs.machine.Machine.first_arrivals.Goals as goal
use Rattle.gw_machine.proofs.machine.Machine.first_arrivals.Goals.{After-is_some}

-- what would be read past the last block
abbrev default : Block
default = blocks.Generate (record { interval = record { mean = Constant (pos 0); half = Constant (pos 0) }; first = None; limit = None; priority = pos 0 })

pub first_arrival-requires-clause-there : goal.first_arrival-requires-clause-there
first_arrival-requires-clause-there c =
    let own = c.loop-i.invariant.blocks in
    rw own (block_here c.args.verified.now.blocks c.loop-i.i default (rw own at c.loop-i-test.true))

-- what one arrival made, told of the blocks of the object
made : (c : After-is_some)
    → Schedules c.in_ok-end.end
    (first_arrival c.args.verified.now (c.loop-i.i + 1) (get_or c.args.verified.now.blocks c.loop-i.i default) (state_of c.loop-i.self))
    (state_of c.first_arrival.new.self)
made c =
    subst (λ (bs : List Block). Schedules c.in_ok-end.end
    (first_arrival c.args.verified.now (c.loop-i.i + 1) (get_or bs c.loop-i.i default) (state_of c.loop-i.self)) (state_of c.first_arrival.new.self))
    c.loop-i.invariant.blocks c.in_ok-end.ensures.made

pub returns-then-is_some-clause-made : goal.returns-then-is_some-clause-made
returns-then-is_some-clause-made c =
    stops c.args.verified.now (state_of c.loop-i.self) c.loop-i.i default (rw c.loop-i.invariant.blocks at c.loop-i-test.true)
    c.in_ok-end.end (state_of c.first_arrival.new.self) _ _ (sym c.if-is_some.ensures)
    (made (goal.at.returns-then-is_some-clause-made c).After-is_some) c.loop-i.invariant.made

pub loop-i-preserved : goal.loop-i-preserved
loop-i-preserved c = record {
  blocks = c.loop-i.invariant.blocks;
  made = continues c.args.verified.now (state_of c.loop-i.self) c.loop-i.i default (rw c.loop-i.invariant.blocks at c.loop-i-test.true)
      c.in_ok-end.end (state_of c.first_arrival.new.self) _ (sym c.if-is_some.ensures)
      (made (goal.at.loop-i-preserved c).After-is_some) c.loop-i.invariant.made;
  readable = c.in_ok-end.ensures.readable;
  slots = c.in_ok-end.ensures.slots ∙ c.loop-i.invariant.slots;
  own = ap (λ (t : EntityTables). length t.facilities.values) c.in_ok-end.ensures.entities ∙ c.loop-i.invariant.own;
  table = omega (arith, c.in_ok-end.ensures.scheduled.0);
  txs = omega (arith, c.in_ok-end.ensures.made_by);
  scheduled = omega (arith, c.in_ok-end.ensures.scheduled.1);
}

pub returns-clause-made : goal.returns-clause-made
returns-clause-made c = is_done c.args.verified.now (state_of c.loop-i.self) c.loop-i.i _
    (rw c.loop-i.invariant.blocks at c.loop-i-test.false) c.loop-i.invariant.made
