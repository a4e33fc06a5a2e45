use Rattle.gw_listing.proofs.Growing.{fronted_where}
use Rattle.gw_listing.proofs.code.put_takes.Goals as goal

pub returns : goal.returns
returns c = fronted_where _ _ _ _ c.end_line.result c.in_ok-put_takes_front.ensures c.end_line.ensures
