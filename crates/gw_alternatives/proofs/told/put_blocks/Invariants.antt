use Rattle.std.proofs.Common.{take}
use Rattle.gw_comparison.specs.Sheets.{AddsEach}
use Rattle.gw_alternatives.specs.Told.{AddsBlock}
use Rattle.gw_alternatives.proofs.told.put_blocks.Given as goal

-- the differences of the points so far are added
abbrev pub invariant-loop-i : goal.invariant-loop-i
invariant-loop-i l = AddsEach (AddsBlock l.all l.first) (take l.i l.others) l.fn.out.items l.out.items
