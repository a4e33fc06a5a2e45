use Rattle.std.proofs.Common.{sym, arith, true, false}
use Rattle.gw_chains.proofs.Heading.{host-past, host-at}
use Rattle.gw_chains.proofs.row.host_at.Goals as goal

pub returns-then-place-len : goal.returns-then-place-len
returns-then-place-len c =
    sym (host-past c.args.newcomer c.args.row.now.items c.args.place (omega (arith, c.args.row.now.ok.0, c.if-place-len.true, c.len.ensures)) c.requires.place)

pub returns-then-is_below : goal.returns-then-is_below
returns-then-is_below c =
    sym (host-at c.args.newcomer c.args.row.now.items c.args.place c.index-bucket.result.now
    (omega (arith, c.args.row.now.ok.0, c.if-place-len.false, c.len.ensures, c.requires.within)) c.requires.place
    c.index-bucket.ensures true c.if-is_below.ensures)

pub returns-else-is_below : goal.returns-else-is_below
returns-else-is_below c =
    sym (host-at c.args.newcomer c.args.row.now.items c.args.place c.index-bucket.result.now
    (omega (arith, c.args.row.now.ok.0, c.if-place-len.false, c.len.ensures, c.requires.within)) c.requires.place
    c.index-bucket.ensures false c.if-is_below.ensures)
