use Rattle.std.proofs.Common.{◌≡◌, ◌-◌, ◌*◌, ◌^◌, ◌≤◌}
use Rattle.std.specs.Prelude.{sum}
use Rattle.gw_object.specs.Limits.{greatest_weight}
use Rattle.gw_num.specs.Table.{tabulate}
use Rattle.gw_scan.specs.Weighing.{owed_weight}
use Rattle.gw_scan.proofs.weight.weight_owed.Given as goal

-- so far; there is no block 0, and each other one owes fewer arrivals than 2 ^ 32
abbrev pub invariant-loop-number : goal.invariant-loop-number
invariant-loop-number l = record {
  sum : l.weight ≡ sum (tabulate (owed_weight l.parts l.scheduled) l.number);
  bound : l.weight ≤ (l.number - 1) * (2 ^ 32 * greatest_weight);
}
