use Rattle.gw_settle.proofs.Ordering.{join_is_ordered}
use Rattle.gw_settle.proofs.laws.joins_are_ordered.Goals as goal

pub returns : goal.returns
returns c = join_is_ordered
