use Rattle.std.proofs.Common.{rules, ◌≡◌}
use Rattle.gw_flow.specs.Known.{amounts_of}
use Rattle.gw_settle.specs.Drafts.{AgreeButUnits}
use Rattle.gw_settle.proofs.Placing.{amounts_fall_on}
use Rattle.gw_settle.proofs.falls.row_falls_on.Goals as goal

pub returns : goal.returns
returns c = λ yes.
    let same : AgreeButUnits c.args.next.now c.args.row.now = search rules in
    let units : amounts_of c.units.result.now ≡ c.args.row.now.units = search rules in
    record {
      params = same.params;
      facilities = same.facilities;
      amounts = amounts_fall_on c.args.times c.args.row.now c.args.next.now c.args.second.now c.args.last.now c.units.result.now units
          (c.units_fall_on.ensures.0 yes);
    }
