use Rattle.std.specs.Prelude.{All}
use Rattle.gw_rules.specs.KindsLaws.{ReturnsHold}
use Rattle.gw_rules.proofs.KindsHold.{kinds_pass_at_each_place}
use Rattle.gw_rules.proofs.Rooms.{calls_have_next}
use Rattle.gw_weights.proofs.check.check_weights.Goals as goal

pub check_parts-requires-clause-next : goal.check_parts-requires-clause-next
check_parts-requires-clause-next c =
    let o = c.args.object.now in
    let calls : All (ReturnsHold o) o.returns = ((kinds_pass_at_each_place o).0 c.requires.kinds).2 in
    rw c.parts.ensures.value (calls_have_next o c.parts.ensures.limits.limits.blocks calls)
