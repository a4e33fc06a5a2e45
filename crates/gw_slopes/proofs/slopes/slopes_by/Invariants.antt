use Rattle.std.proofs.Common.{◌≡◌, ◌++◌, map, drop}
use Rattle.gw_slopes.specs.Sloped.{slope_by}
use Rattle.gw_slopes.proofs.slopes.slopes_by.Given as goal

-- with the slopes of the marks that are left they are those of all
abbrev pub invariant-loop-i : goal.invariant-loop-i
invariant-loop-i l = l.slopes.items ++ map (slope_by l.parameter l.per) (drop l.i l.marks) ≡ map (slope_by l.parameter l.per) l.marks
