use Rattle.gw_rows.specs.Rows.{source_of}
use Rattle.gw_shards.specs.Rows.{view}
use Rattle.gw_shards.proofs.Runs.{rows_added}
use Rattle.gw_shards.proofs.rows.put_point.Goals as goal

pub returns : goal.returns
returns g c =
    rows_added c.put_rows.result (view c.args.common.now) c.args.point.now c.args.first c.args.end c.in_ok-results.results
    (source_of c.in_ok-origin.origin) c.args.out.now.items c.put_rows.new.out.items c.in_ok-results.ensures c.in_ok-origin.ensures.source
    c.in_ok-origin.ensures.may (rw (c.deref.ensures.value, c.deref-2.ensures.value) at c.put_rows.ensures.rows)
    (rw (c.deref.ensures.value, c.deref-2.ensures.value) at c.put_rows.ensures.range)
