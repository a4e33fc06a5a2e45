use Rattle.std.proofs.Common.{rules, ◌≡◌, sym, subst}
use Rattle.gw_rules.specs.Rows.{IsOrdered}
use Rattle.gw_flow.specs.Viewed.{row_view}
use Rattle.gw_settle.specs.Jumps.{row_after}
use Rattle.gw_settle.proofs.Keeping.{amounts_ascend}
use Rattle.gw_settle.proofs.Slopes.{after_ordered}
use Rattle.gw_settle.proofs.known.Known.after.Goals as goal

pub units_after-requires : goal.units_after-requires
units_after-requires c = amounts_ascend c.as_slice-3.result.now c.self.inside.lists.value.units (search rules) c.self.invariant.units

pub of_lists-requires : goal.of_lists-requires
of_lists-requires c =
    let fallen : row_view c.in_ok-params.params.items c.in_ok-owned.owned.items c.in_ok-units.units.items
    ≡ row_after c.args.times c.args.self.now c.args.next.now = search rules in
    subst IsOrdered (sym fallen) (after_ordered c.args.times c.args.self.now c.args.next.now (subst IsOrdered c.self.view_is c.self.invariant))
