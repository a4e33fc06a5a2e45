use Rattle.gw_comparison.proofs.Rows.{one_more}
use Rattle.gw_comparison.proofs.differences.put_rows.Goals as goal

pub loop-i-preserved : goal.loop-i-preserved
loop-i-preserved c =
    one_more c.args.all c.args.first.now c.args.others.now c.loop-i.i c.index-first-i.result c.args.out.now.items c.loop-i.out.items
    c.put_row_if_told.new.out.items c.loop-i-test.true c.index-first-i.is c.in_ok-put_row_if_told.ensures c.loop-i.invariant
