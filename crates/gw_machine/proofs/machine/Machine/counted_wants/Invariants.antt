use Rattle.std.proofs.Common.{◌≡◌, ◌+◌, ℕ, map}
use Rattle.std.specs.List.{AllByRecursion}
use Rattle.gw_step.specs.Residence.{occurrences}
use Rattle.gw_machine.specs.Coherence.{IsRanked}
use Rattle.gw_machine.specs.View.{state_of, member_number}
use Rattle.gw_machine.specs.Wants.{ArePast, next_of, nexts, want_count}
use Rattle.gw_machine.proofs.machine.Machine.counted_wants.Given as goal

-- who was counted and who is still to come are all who wait
abbrev pub invariant-loop-waiter : goal.invariant-loop-waiter
invariant-loop-waiter l = record {
  ranked : AllByRecursion (IsRanked l.self.transactions) l.waiter-iterator;
  counted : (b : ℕ) → want_count b l.wants.items
      + occurrences b (map (next_of l.self.transactions.txs) (map member_number l.waiter-iterator)) ≡ occurrences b (nexts l.e (state_of l.self));
  past : ArePast l.self.entries l.wants.items;
}
