use Rattle.std.proofs.Common.{take}
use Rattle.gw_comparison.specs.Sheets.{AddsEach, AddsColumn}
use Rattle.gw_comparison.proofs.sheet.put_columns.Given as goal

-- what is added for those so far
abbrev pub invariant-loop-i : goal.invariant-loop-i
invariant-loop-i l = AddsEach (AddsColumn l.all l.point) (take l.i l.columns) l.fn.out.items l.out.items
