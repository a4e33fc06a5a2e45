use Rattle.std.proofs.Common.{◌≤◌, arith, sym, subst}
use Rattle.gw_page.proofs.Shares.{shared}
use Rattle.gw_page.proofs.limits.is_share.Goals as goal

pub returns : goal.returns
returns c =
    shared c.args.number c.args.steps c.args.numbers c.args.spec.now c.in_ok-job.job c.is_short.result c.in_ok-job.ensures
    (subst (λ n. n ≤ c.args.numbers) c.in_ok-figures_of.ensures (omega (arith, c.if-branch-numbers.false))) c.is_short.ensures
