use Rattle.std.proofs.Common.{subst}
use Rattle.gw_rules.specs.Pass.{KindsPass}
use Rattle.gw_slopes.proofs.Alike.{kinds_same}
use Rattle.gw_slopes.proofs.weighing.weigh_with_slopes.Goals as goal

pub with_slopes_if_needed-requires : goal.with_slopes_if_needed-requires
with_slopes_if_needed-requires c =
    let o = c.in-Ok.object in
    record { kinds = subst KindsPass c.in-Ok.ensures.rest (kinds_same c.args.object o.weights o.chain_weights c.requires.kinds) }
