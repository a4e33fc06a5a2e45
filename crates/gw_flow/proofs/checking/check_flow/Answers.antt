use Rattle.std.proofs.Common.{subst}
use Rattle.std.specs.Prelude.{All}
use Rattle.gw_object.specs.declared.parts.Parts.{Parts}
use Rattle.gw_rules.specs.KindsLaws.{ReturnsHold}
use Rattle.gw_rules.proofs.KindsHold.{kinds_pass_at_each_place}
use Rattle.gw_rules.specs.Flow.{own_table, flow_checks, MayFind}
use Rattle.gw_rules.proofs.Rooms.{calls_have_next}
use Rattle.gw_flow.proofs.OwnRooms.{calls_are_below}
use Rattle.gw_flow.proofs.checking.check_flow.Goals as goal

pub of-requires-clause-blocks : goal.of-requires-clause-blocks
of-requires-clause-blocks c =
    let o = c.args.object.now in
    let calls : All (ReturnsHold o) o.returns = ((kinds_pass_at_each_place o).0 c.requires.kinds).2 in
    rw (c.as_slice.ensures, c.as_slice-2.ensures, c.parts-parts.ensures.value) (calls_are_below o calls)

pub check_by-requires-clause-next : goal.check_by-requires-clause-next
check_by-requires-clause-next c =
    let o = c.args.object.now in
    let calls : All (ReturnsHold o) o.returns = ((kinds_pass_at_each_place o).0 c.requires.kinds).2 in
    rw c.parts-parts.ensures.value (calls_have_next o c.parts-parts.ensures.limits.limits.blocks calls)

pub returns-in-Ok : goal.returns-in-Ok
returns-in-Ok c = subst (λ (o : Parts). MayFind c.check_by.result (flow_checks o (own_table o))) c.parts-parts.ensures.value c.check_by.ensures
