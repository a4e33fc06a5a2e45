use Rattle.std.proofs.Common.{sym, arith}
use Rattle.gw_chains.proofs.Spotting.{count-here}
use Rattle.gw_chains.proofs.Walking.{count_past, first_past, first-here}
use Rattle.gw_chains.proofs.walk.walk_from.Goals as goal

pub returns-then-len-bucket-clause-here : goal.returns-then-len-bucket-clause-here
returns-then-len-bucket-clause-here c =
    sym (first_past c.args.row.now.items c.args.bucket (omega (arith, c.args.row.now.ok.0, c.len.ensures, c.if-len-bucket.true)))

pub returns-then-len-bucket-clause-left : goal.returns-then-len-bucket-clause-left
returns-then-len-bucket-clause-left c =
    sym (count_past c.args.row.now.items c.args.bucket (omega (arith, c.args.row.now.ok.0, c.len.ensures, c.if-len-bucket.true)))

pub returns-clause-here : goal.returns-clause-here
returns-clause-here c =
    sym (first-here c.args.row.now.items c.args.bucket c.index-begun.result.now
    (omega (arith, c.args.row.now.ok.0, c.len.ensures, c.if-len-bucket.false)) c.index-begun.ensures)

pub returns-clause-left : goal.returns-clause-left
returns-clause-left c =
    sym (count-here c.args.row.now.items c.args.bucket c.index-begun.result.now
    (omega (arith, c.args.row.now.ok.0, c.len.ensures, c.if-len-bucket.false)) c.index-begun.ensures)
