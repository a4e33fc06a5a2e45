use Rattle.std.proofs.Common.{◌≤◌, length, subst}
use Rattle.gw_pieces.proofs.planning.plan_with.Goals as goal

pub returns-in-Ok-clause-few : goal.returns-in-Ok-clause-few
returns-in-Ok-clause-few c none =
    let g = c.in-Ok.ensures.few none in
    (g.0, subst (λ l. length l ≤ 256) c.in-Ok.ensures.order g.1)
