use Rattle.std.proofs.Common.{◌<◌, ◌∙◌, length, arith, refl, sym}
use Rattle.gw_chains.proofs.Chunking.{begins_as_first}
use Rattle.gw_chains.proofs.chunks.begins_before.Goals as goal

pub returns-in-Some : goal.returns-in-Some
returns-in-Some g c =
    let some : 0 < length c.args.chunk.now.items = omega (arith, c.args.chunk.now.ok.0, c.in-Some.ensures.variant.0 refl) in
    c.goes_first.ensures ∙ sym
    (begins_as_first (λ y. g.T.Placed.goes_first y c.args.newcomer) c.args.chunk.now.items c.in-Some.first.now some c.in-Some.ensures.lookup)
