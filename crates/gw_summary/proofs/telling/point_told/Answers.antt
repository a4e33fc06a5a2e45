use Rattle.gw_summary.proofs.Results.{point_of}
use Rattle.gw_summary.proofs.telling.point_told.Goals as goal

pub returns : goal.returns
returns c =
    point_of c.args.rows.now c.args.study.now c.args.request c.args.point.now c.in_ok-results.results c.study_request-asked.result
    c.args.out.now.items c.put_table.new.out.items c.point_of.result c.in_ok-results.ensures.results (rw c.len.ensures at c.study_request-asked.ensures)
    (rw c.deref.ensures.value at c.in_ok-put_table.ensures) (rw c.deref-2.ensures.value at c.point_of.ensures)
