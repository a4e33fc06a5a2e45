use Rattle.std.proofs.Common.{◌≤◌}
use Rattle.gw_settle.proofs.leaps.times_in_row.Given as goal

abbrev pub invariant-loop-i : goal.invariant-loop-i
invariant-loop-i l = l.times ≤ l.most
