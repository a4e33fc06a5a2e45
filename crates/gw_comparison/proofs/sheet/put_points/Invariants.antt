use Rattle.std.proofs.Common.{take}
use Rattle.gw_comparison.specs.Sheets.{AddsEach, AddsColumns}
use Rattle.gw_comparison.proofs.sheet.put_points.Given as goal

-- what is added for those so far
abbrev pub invariant-loop-i : goal.invariant-loop-i
invariant-loop-i l = AddsEach (AddsColumns l.all) (take l.i l.points) l.fn.out.items l.out.items
