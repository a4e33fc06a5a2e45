-- no run is behind the 512th, and the greatest so far and that of the points that are left is the greatest of all
use Rattle.std.proofs.Common.{◌≡◌, ◌≤◌, drop, max}
use Rattle.gw_summary.specs.Complete.{end_of_points}
use Rattle.gw_summary.proofs.gaps.end_of.Given as goal

abbrev pub invariant-loop-i : goal.invariant-loop-i
invariant-loop-i l = (l.end ≤ 512) × (max l.end (end_of_points (drop l.i l.points)) ≡ end_of_points l.points)
