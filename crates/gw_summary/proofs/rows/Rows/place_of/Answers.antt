use Rattle.std.proofs.Common.{arith}
use Rattle.gw_summary.proofs.HoldingRows.{none_called}
use Rattle.gw_summary.proofs.rows.Rows.place_of.Goals as goal

pub returns-clause-none : goal.returns-clause-none
returns-clause-none c =
    none_called c.args.name.now c.args.self.now.points.items c.loop-place.place
    (omega (arith, c.loop-place-test.false, c.args.self.now.points.ok.0)) c.loop-place.invariant
