use Rattle.std.proofs.Common.{take}
use Rattle.gw_comparison.specs.Sheets.{AddsEach, AddsDifferenceIfTold}
use Rattle.gw_comparison.proofs.sheet.put_each_difference.Given as goal

-- what is added for those so far
abbrev pub invariant-loop-i : goal.invariant-loop-i
invariant-loop-i l = AddsEach (AddsDifferenceIfTold l.all l.name l.others) (take l.i l.columns) l.fn.out.items l.out.items
