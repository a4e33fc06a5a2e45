use Rattle.std.proofs.Common.{rules, ◌≡◌, ◌<◌, ◌-◌, length, get_or, true, refl, arith}
use Rattle.gw_chains.proofs.Places.{all_pass}
use Rattle.gw_chains.proofs.chunks.place_in.Goals as goal

pub returns-then-goes_first-clause-place : goal.returns-then-goes_first-clause-place
returns-then-goes_first-clause-place g c =
    let some : 0 < length c.args.chunk.now.items = omega (arith, c.args.chunk.now.ok.0, c.in-Some.ensures.variant.0 refl) in
    let last : c.in-Some.last.now ≡ get_or c.args.chunk.now.items (length c.args.chunk.now.items - 1) c.in-Some.last.now =
    rw (c.args.chunk.now.ok.0) at c.in-Some.ensures.lookup in
    let passes : g.T.Placed.goes_first c.in-Some.last.now c.args.newcomer ≡ true = search rules in
    rw (c.len.ensures, c.args.chunk.now.ok.0)
    (all_pass (λ y. g.T.Placed.goes_first y c.args.newcomer) c.args.chunk.now.items c.in-Some.last.now some last passes c.requires)
