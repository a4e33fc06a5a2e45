use Rattle.std.proofs.Common.{take}
use Rattle.gw_comparison.specs.Sheets.{AddsEach, AddsDifferenceRecords}
use Rattle.gw_comparison.proofs.sheet.put_others.Given as goal

-- what is added for those so far
abbrev pub invariant-loop-i : goal.invariant-loop-i
invariant-loop-i l = AddsEach (AddsDifferenceRecords l.all l.first) (take l.i l.others) l.fn.out.items l.out.items
