use Rattle.std.proofs.Common.{rules, ◌≡◌, sym, subst}
use Rattle.gw_rules.specs.Rows.{IsOrdered, with_facilities, without_facility}
use Rattle.gw_flow.proofs.Ordered.{without_facility_ordered}
use Rattle.gw_flow.proofs.state.State.without_facility.Goals as goal

pub with_facilities-requires : goal.with_facilities-requires
with_facilities-requires c =
    let same : with_facilities c.in_ok-facilities.facilities.items c.args.self.now ≡ without_facility c.args.facility c.args.self.now = search rules in
    subst IsOrdered (sym same) (without_facility_ordered c.args.self.now (subst IsOrdered c.self.view_is c.self.invariant) c.args.facility)
