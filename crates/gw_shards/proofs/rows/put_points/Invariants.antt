-- what the points that are left add is what all add
use Rattle.std.proofs.Common.{ℕ, List, drop}
use Rattle.gw_shards.specs.Rows.{view, AddsRowsOfPoints}
use Rattle.gw_shards.proofs.rows.put_points.Given as goal

abbrev pub invariant-loop-i : goal.invariant-loop-i
invariant-loop-i g l =
    (new : List ℕ) → AddsRowsOfPoints (view l.common) l.first l.end l.last.items (drop l.i l.points) l.out.items new
    → AddsRowsOfPoints (view l.common) l.first l.end l.initial.last.items l.points l.initial.out.items new
