-- each run before this one is there just where it has to be
use Rattle.std.proofs.Common.{◌≡◌, ◌<◌, ℕ}
use Rattle.std.specs.Prelude.{nat_le, slice_get}
use Rattle.gw_summary.specs.Adding.{has}
use Rattle.gw_summary.proofs.point.PointRows.fault_between.Given as goal

abbrev pub invariant-loop-number : goal.invariant-loop-number
invariant-loop-number l = (n : ℕ) → n < l.number → has (slice_get l.self.lines.items n) ≡ nat_le l.first n
