-- the values so far, and those that are left, are all that are there
use Rattle.std.proofs.Common.{◌≡◌, ◌≤◌, ◌++◌, drop, length}
use Rattle.gw_comparison.specs.Points.{values_in}
use Rattle.gw_comparison.proofs.accounts.values_in.Given as goal

abbrev pub invariant-loop-i : goal.invariant-loop-i
invariant-loop-i l = (values_in l.values ≡ l.found.items ++ values_in (drop l.i l.values)) × (length l.found.items ≤ l.i)
