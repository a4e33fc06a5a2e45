use Rattle.gw_shards.specs.Rows.{view}
use Rattle.gw_shards.proofs.Adding.{one_more}
use Rattle.gw_shards.proofs.rows.put_points.Goals as goal

pub loop-i-preserved : goal.loop-i-preserved
loop-i-preserved g c =
    one_more (view c.args.common.now) c.args.first c.args.end c.args.points.now c.loop-i.i c.index-points-i.result c.args.last.now.items c.loop-i.last.items
    c.put_rows_of.new.last.items c.args.out.now.items c.loop-i.out.items c.put_rows_of.new.out.items c.loop-i-test.true c.index-points-i.is
    c.in_ok-put_rows_of.ensures.last c.in_ok-put_rows_of.ensures.added c.loop-i.invariant
