use Rattle.std.proofs.Common.{arith, length}
use Rattle.gw_statistics.proofs.Pairing.{none_left, all_found}
use Rattle.gw_statistics.proofs.pairs.differences.Goals as goal

pub returns-clause-differences : goal.returns-clause-differences
returns-clause-differences c =
    all_found _ _ _ c.loop-r.invariant.0 (none_left c.args.first.now c.args.second.now c.loop-r.r (omega (arith, c.loop-r-test.false, c.min-r-end.ensures)))
