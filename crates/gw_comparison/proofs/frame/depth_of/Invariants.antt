-- what was found, and the marks that are left, reach as far as all
use Rattle.std.proofs.Common.{◌≡◌, drop}
use Rattle.gw_comparison.specs.Frames.{depth_from}
use Rattle.gw_comparison.proofs.frame.depth_of.Given as goal

abbrev pub invariant-loop-i : goal.invariant-loop-i
invariant-loop-i l = depth_from l.depth (drop l.i l.marks) ≡ depth_from 0 l.marks
