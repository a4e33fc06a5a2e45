use Rattle.std.proofs.Common.{◌≡◌, ◌+◌, ◌*◌, ◌≤◌, length}
use Rattle.std.specs.Prelude.{sum_by}
use Rattle.gw_step.specs.Weight.{weight_in}
use Rattle.gw_scan.specs.Weighing.{heaviest}
use Rattle.gw_scan.proofs.Weighing.{listed_weight}
use Rattle.gw_scan.proofs.weight.weight_of_all.Given as goal

-- those so far and those still to come weigh as much as all, and none of them more than the heaviest
abbrev pub invariant-loop-transaction : goal.invariant-loop-transaction
invariant-loop-transaction l = record {
  sum : l.weight + sum_by (listed_weight l.parts) l.transaction-iterator ≡ sum_by (weight_in l.parts) l.transactions.txs;
  bound : l.weight + length l.transaction-iterator * heaviest ≤ 65536 * heaviest;
}
