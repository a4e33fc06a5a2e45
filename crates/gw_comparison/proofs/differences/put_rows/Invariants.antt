-- what the rows that are left add to the text is what all rows add
use Rattle.std.proofs.Common.{ℕ, List, drop}
use Rattle.gw_comparison.specs.Differences.{AddsRows}
use Rattle.gw_comparison.proofs.differences.put_rows.Given as goal

abbrev pub invariant-loop-i : goal.invariant-loop-i
invariant-loop-i l =
    (new : List ℕ) → AddsRows l.all (drop l.i l.first) l.others l.out.items new → AddsRows l.all l.first l.others l.initial.out.items new
