use Rattle.std.proofs.Common.{sym, ◌∙◌}
use Rattle.gw_weighing.proofs.Spelled.{still_spelled}
use Rattle.gw_weighing.proofs.weighing.with_weights.Goals as goal

pub unreachable-requires : goal.unreachable-requires
unreachable-requires c =
    let q = c.requires in
    let fits = still_spelled c.args.object c.args.weights.items c.args.chain_weights.items (c.into_parts-parts.ensures.limits) q.blocks
    q.chains q.range q.chain_range in
    let built = c.build.ensures.exactly (rw (c.into_parts-parts.ensures.value, c.from_vec.ensures, c.from_vec-2.ensures) fits) in
    absurd (let clash = sym built ∙ c.in-Err.is in cc)
