use Rattle.std.proofs.Common.{◌+◌, refl}
use Rattle.gw_chains.proofs.Known.{known_host, known_taken}
use Rattle.gw_chains.proofs.chunks.insert.Goals as goal

pub returns-in-Some-clause-host : goal.returns-in-Some-clause-host
returns-in-Some-clause-host g c =
    let at = c.args.at.now in
    known_host g.T.Placed.goes_first c.args.newcomer c.in-Some.host c.in-Some.ensures.like.0 c.in-Some.ensures.like.1
    c.args.chunks.now.items at.chunk at.place c.in-Some.ensures.there c.requires.order c.requires.last

pub returns-in-Some-clause-items : goal.returns-in-Some-clause-items
returns-in-Some-clause-items g c =
    let at = c.args.at.now in
    known_taken g.T.Placed.goes_first c.args.newcomer c.in-Some.host c.in-Some.ensures.like.0 c.in-Some.ensures.like.1
    g.T.Placed.with_guest c.args.chunks.now.items c.replace_at.new.chunks.items at.chunk (at.chunk + 1) at.place c.take_in.result refl
    c.in-Some.ensures.there c.requires.order c.requires.last c.take_in.ensures c.replace_at.ensures.items
