use Rattle.gw_shards.specs.Rows.{view}
use Rattle.gw_shards.proofs.Adding.{part_more}
use Rattle.gw_shards.proofs.share.put_parts.Goals as goal

pub loop-i-preserved : goal.loop-i-preserved
loop-i-preserved g c =
    let at = c.runs_of_point-first.ensures in
    let named = rw (at.first, at.end) at c.in_ok-put_part.ensures.last in
    let row = rw (at.first, at.end) at c.in_ok-put_part.ensures.added in
    part_more (view c.args.common.now) c.args.share c.args.runs c.args.points.now c.loop-i.i c.index-points-i.result c.args.last.now.items c.loop-i.last.items
    c.put_part.new.last.items c.args.out.now.items c.loop-i.out.items c.put_part.new.out.items c.loop-i-test.true c.index-points-i.is named
    row c.loop-i.invariant
