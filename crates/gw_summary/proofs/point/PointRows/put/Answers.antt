use Rattle.std.proofs.Common.{refl}
use Rattle.gw_summary.proofs.HoldingPoints.{few_places, no_others_but}
use Rattle.gw_summary.proofs.point.PointRows.put.Goals as goal

pub returns-clause-line : goal.returns-clause-line
returns-clause-line c =
    let old = c.args.self.now.lines.items in
    let filled = c.in_ok-fill.ensures in
    record {
      name = refl;
      lines = no_others_but c.args.number c.args.line.now _ old _ _ c.in_ok-copy.ensures filled.known c.put_line.ensures.items;
      few = few_places c.args.number _ _ old _ _ filled.few c.put_line.ensures.items;
    }
