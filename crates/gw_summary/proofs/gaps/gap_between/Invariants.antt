-- each point before this one is whole
use Rattle.std.proofs.Common.{◌<◌, ℕ, slice_index_or}
use Rattle.gw_summary.specs.Adding.{IsWhole}
use Rattle.gw_summary.specs.declared.point.PointRows.{PointRows}
use Rattle.gw_summary.proofs.gaps.gap_between.Given as goal

abbrev pub invariant-loop-i : goal.invariant-loop-i
invariant-loop-i l = (k : ℕ) (d : PointRows) → k < l.i → IsWhole (slice_index_or l.points k d).lines.items l.first l.end
