use Rattle.std.proofs.Common.{◌≡◌, ◌+◌, ◌≤◌, drop, length}
use Rattle.std.specs.Prelude.{sum}
use Rattle.gw_step.specs.Start.{first_arrivals}
use Rattle.gw_machine.specs.View.{state_of}
use Rattle.gw_machine.specs.Coherence.{IsOf}
use Rattle.gw_machine.specs.Evaluating.{IsReadable}
use Rattle.gw_machine.proofs.machine.Machine.first_arrivals.Given as goal

-- the arrivals of the blocks that are left, after those so far, are the arrivals of all
abbrev pub invariant-loop-i : goal.invariant-loop-i
invariant-loop-i l = record {
  blocks : l.blocks ≡ l.verified.blocks;
  made : first_arrivals l.verified (l.i + 1) (drop l.i l.verified.blocks) (state_of l.self)
      ≡ first_arrivals l.verified 1 l.verified.blocks (state_of l.fn.self);
  readable : IsReadable l.self;
  own : IsOf l.verified l.self;
  slots : l.self.last ≡ l.fn.self.last;
  table : length l.self.scheduled ≡ length l.verified.blocks + 1;
  txs : length l.self.transactions.txs ≤ length l.fn.self.transactions.txs + l.i;
  scheduled : sum l.self.scheduled ≤ sum l.fn.self.scheduled + l.i;
}
