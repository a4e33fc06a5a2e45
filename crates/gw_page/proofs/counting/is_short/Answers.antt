use Rattle.std.proofs.Common.{◌≤◌, sym, subst, arith}
use Rattle.gw_step.proofs.Rests.{start_steps}
use Rattle.gw_page.proofs.counting.is_short.Goals as goal

pub is_over_within-short-requires : goal.is_over_within-short-requires
is_over_within-short-requires c =
    subst (λ n. n ≤ c.args.most) (sym (start_steps c.args.spec c.in-Ok.sim.state c.in-Ok.ensures.started.1)) (omega arith)
