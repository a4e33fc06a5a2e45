use Rattle.std.proofs.Common.{◌≡◌, ◌≤◌, ◌-◌, ◌*◌}
use Rattle.gw_statistics.specs.Quantiles.{first_enough}
use Rattle.gw_statistics.proofs.quantiles.runs_to_halve.Given as goal

-- what is looked for is looked for from here on
abbrev pub invariant-loop-all : goal.invariant-loop-all
invariant-loop-all l = (l.n ≤ l.all) × (l.all ≤ l.last) × (first_enough l.n l.n (3 * l.n) ≡ first_enough l.n l.all (l.last - l.all))

abbrev pub decreases-loop-all : goal.decreases-loop-all
decreases-loop-all l = l.last - l.all
