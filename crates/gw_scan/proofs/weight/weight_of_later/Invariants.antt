use Rattle.std.proofs.Common.{◌≡◌, ◌+◌}
use Rattle.std.specs.Prelude.{sum_by}
use Rattle.std.specs.List.{AllByRecursion}
use Rattle.gw_machine.specs.Coherence.{IsHeld}
use Rattle.gw_scan.specs.Weighing.{later_weight, later_weights}
use Rattle.gw_scan.proofs.weight.weight_of_later.Given as goal

-- those so far and those still to come weigh as much as all that are scheduled for later
abbrev pub invariant-loop-event : goal.invariant-loop-event
invariant-loop-event l = record {
  held : AllByRecursion (IsHeld l.machine.transactions) l.event-iterator;
  sum : l.weight + sum_by (later_weight l.parts l.machine.transactions.txs l.machine.clock) l.event-iterator ≡ later_weights l.parts l.machine;
}
