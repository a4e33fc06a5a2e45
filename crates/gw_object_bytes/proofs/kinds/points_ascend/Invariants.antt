use Rattle.gw_object.specs.declared.parts.Point.{Point}
use Rattle.gw_field_bytes.proofs.Ascending.{AscendBelow, int_order}
use Rattle.gw_object_bytes.proofs.kinds.points_ascend.Given as goal

abbrev pub invariant-loop-i : goal.invariant-loop-i
invariant-loop-i l = AscendBelow int_order (λ (p : Point). p.x) l.points l.i
