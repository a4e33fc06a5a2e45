use Rattle.gw_alternatives.proofs.Telling.{told_by}
use Rattle.gw_alternatives.proofs.told.point_told.Goals as goal

pub returns : goal.returns
returns g c =
    told_by c.point_of.result c.args.form c.args.request.now c.args.alternative.now c.in_ok-results.results c.args.out.now.items c.put_table_in.new.out.items
    c.in_ok-results.ensures c.in_ok-put_table_in.ensures (rw c.deref.ensures.value at c.point_of.ensures)
