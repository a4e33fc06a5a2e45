use Rattle.std.proofs.Common.{◌≡◌, int_le, drop}
use Rattle.std.specs.List.{find}
use Rattle.gw_object.specs.declared.parts.Point.{Point}
use Rattle.gw_rules.proofs.results.first_from.Given as goal

-- the first of the points that are left is that of all
abbrev pub invariant-loop-point : goal.invariant-loop-point
invariant-loop-point l = find (λ (q : Point). int_le l.argument q.x) l.points ≡ find (λ (q : Point). int_le l.argument q.x) (drop l.point-index l.points)
