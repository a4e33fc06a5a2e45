use Rattle.std.proofs.Common.{◌-◌, pos, ◌<ℤ◌, get_or, sym, ◌∙◌, arith}
use Rattle.std.proofs.lemmas.List.{get_or_default}
use Rattle.gw_object.specs.declared.parts.Point.{Point}
use Rattle.gw_field_bytes.proofs.Ascending.{ascend_more, int_order}
use Rattle.gw_object_bytes.proofs.kinds.points_ascend.Goals as goal

pub loop-i-preserved : goal.loop-i-preserved
loop-i-preserved c =
    let xs = c.as_slice-points.result.now in
    let i = c.loop-i.i in
    let first : Point = record { x = pos 0; y = pos 0 } in
    let below : (get_or xs (i - 1) first).x <ℤ (get_or xs i first).x = (int_order.decides _ _).0 (sym c.is_below.ensures ∙ c.if-not-is_below.false) in
    ascend_more int_order (λ (p : Point). p.x) xs i
    (λ d. rw (get_or_default xs i d first c.loop-i-test.true, get_or_default xs (i - 1) d first (omega (arith, c.loop-i-test.true)))
    below) c.loop-i.invariant
