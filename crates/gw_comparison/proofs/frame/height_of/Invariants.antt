-- what was found, and the marks that are left, reach as far as all
use Rattle.std.proofs.Common.{◌≡◌, drop}
use Rattle.gw_comparison.specs.Frames.{height_from}
use Rattle.gw_comparison.proofs.frame.height_of.Given as goal

abbrev pub invariant-loop-i : goal.invariant-loop-i
invariant-loop-i l = height_from l.height (drop l.i l.marks) ≡ height_from 0 l.marks
