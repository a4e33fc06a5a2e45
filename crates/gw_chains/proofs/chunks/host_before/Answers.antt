use Rattle.std.proofs.Common.{rules, ◌≡◌, true, false, arith}
use Rattle.gw_chains.proofs.Newcoming.{host-tested}
use Rattle.gw_chains.proofs.chunks.host_before.Goals as goal

pub returns-then-goes_first-clause-host : goal.returns-then-goes_first-clause-host
returns-then-goes_first-clause-host g c =
    let goes = g.T.Placed.goes_first in
    let takes : goes c.args.newcomer c.index-before.result.now ≡ true = search rules in
    host-tested goes c.args.newcomer c.args.chunk.now.items c.args.place c.index-before.result.now true (omega arith)
    (omega (arith, c.args.chunk.now.ok.0, c.requires.within)) c.requires.place c.requires.last c.index-before.ensures takes

pub returns-else-goes_first-clause-host : goal.returns-else-goes_first-clause-host
returns-else-goes_first-clause-host g c =
    let goes = g.T.Placed.goes_first in
    let fails : goes c.args.newcomer c.index-before.result.now ≡ false = search rules in
    host-tested goes c.args.newcomer c.args.chunk.now.items c.args.place c.index-before.result.now false (omega arith)
    (omega (arith, c.args.chunk.now.ok.0, c.requires.within)) c.requires.place c.requires.last c.index-before.ensures fails
