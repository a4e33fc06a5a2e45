use Rattle.gw_settle.proofs.Joining.{join_is_below_both, join_is_greatest}
use Rattle.gw_settle.proofs.laws.joins_are_greatest.Goals as goal

pub returns-clause-below : goal.returns-clause-below
returns-clause-below c = join_is_below_both

pub returns-clause-greatest : goal.returns-clause-greatest
returns-clause-greatest c = join_is_greatest
