use Rattle.std.proofs.Common.{rules, ◌≡◌, sym, subst}
use Rattle.gw_rules.specs.Rows.{IsOrdered, with_units}
use Rattle.gw_flow.specs.Viewed.{row_view}
use Rattle.gw_flow.proofs.Ordered.{with_units_ordered}
use Rattle.gw_flow.proofs.state.State.with_units.Goals as goal

made : (c : goal.After-from_vec) → row_view c.in_ok-copy_of.field-0 c.in_ok-copy_of-2.field-0 c.from_vec.result
    ≡ with_units c.args.entity c.args.number c.args.self.now
made c = search rules

pub invariant_of-result : goal.invariant_of-result
invariant_of-result c = subst IsOrdered (sym (made c))
    (with_units_ordered c.args.self.now (subst IsOrdered c.self.view_is c.self.invariant) c.args.entity c.args.number)

pub returns : goal.returns
returns c = made c
