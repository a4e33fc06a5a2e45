use Rattle.std.proofs.Common.{◌∙◌, ◌-◌, ap, arith, set}
use Rattle.gw_chains.proofs.Newcoming.{newcomer-hosted, newcomer-unhosted}
use Rattle.gw_chains.proofs.chunks.join.Goals as goal

pub returns-in-Some-clause-items : goal.returns-in-Some-clause-items
returns-in-Some-clause-items g c =
    ap (set c.args.chunk.now.items (c.place_in-place.result - 1)) c.take_in.ensures
    ∙ newcomer-hosted g.T.Placed.goes_first c.args.newcomer g.T.Placed.with_guest c.args.chunk.now.items c.place_in-place.result
    c.in-Some.host (c.in-Some.ensures.before) (omega (arith, c.args.chunk.now.ok.0, c.place_in-place.ensures.within))
    c.place_in-place.ensures.place c.requires.last c.in-Some.ensures.host

pub returns-in-None-clause-items : goal.returns-in-None-clause-items
returns-in-None-clause-items g c =
    c.insert_reserved.ensures.items
    ∙ newcomer-unhosted g.T.Placed.goes_first c.args.newcomer g.T.Placed.with_guest c.args.chunk.now.items c.place_in-place.result
    (omega (arith, c.args.chunk.now.ok.0, c.place_in-place.ensures.within)) c.place_in-place.ensures.place c.requires.last c.in-None.ensures.host
