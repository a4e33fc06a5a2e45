use Rattle.std.proofs.Common.{◌≡◌, map, take}
use Rattle.gw_object_records.specs.Entities.{point_of}
use Rattle.gw_object_records.proofs.entities.points_of.Given as goal

-- those so far are kept
abbrev pub invariant-loop-point : goal.invariant-loop-point
invariant-loop-point l = l.kept.items ≡ map point_of (take l.point-index l.points)
