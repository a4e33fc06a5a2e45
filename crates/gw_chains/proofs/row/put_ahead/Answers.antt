use Rattle.std.proofs.Common.{◌∙◌, sym, ap, arith, set}
use Rattle.gw_chains.proofs.Heading.{put-headed, put-apart}
use Rattle.gw_chains.proofs.row.put_ahead.Goals as goal

pub index_mut-requires : goal.index_mut-requires
index_mut-requires c = omega
    (arith, (put-headed c.args.newcomer c.args.row.now.items c.args.place c.in-Some.bucket c.requires.place (sym c.in-Some.is ∙ c.requires.host)).0)

pub returns-in-Some-clause-items : goal.returns-in-Some-clause-items
returns-in-Some-clause-items c =
    ap (set c.args.row.now.items c.args.place) c.headed_by.ensures
    ∙ (put-headed c.args.newcomer c.args.row.now.items c.args.place c.in-Some.bucket c.requires.place (sym c.in-Some.is ∙ c.requires.host)).1

pub returns-in-None-clause-items : goal.returns-in-None-clause-items
returns-in-None-clause-items c =
    c.insert_reserved.ensures.items
    ∙ put-apart c.args.newcomer c.args.row.now.items c.args.place (omega (arith, c.requires.within)) c.requires.place (sym c.in-None.is ∙ c.requires.host)
