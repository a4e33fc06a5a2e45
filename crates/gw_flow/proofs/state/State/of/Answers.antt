use Rattle.std.proofs.Common.{rules, ◌≡◌, sym, subst}
use Rattle.gw_rules.specs.Rows.{IsOrdered}
use Rattle.gw_flow.specs.Known.{known_row}
use Rattle.gw_flow.specs.Viewed.{row_view}
use Rattle.gw_flow.proofs.Ordered.{parts_ordered}
use Rattle.gw_flow.proofs.state.State.of.Goals as goal

pub invariant_of-result : goal.invariant_of-result
invariant_of-result c =
    let made : row_view c.from_vec.result c.in_ok-copy_of.field-0 c.in_ok-copy_of-2.field-0 ≡ known_row c.args.returns.now c.args.state.now = search rules in
    subst IsOrdered (sym made) (parts_ordered c.args.returns.now c.requires c.args.state.now c.parts-parts.ensures.ordered)
