use Rattle.gw_rows.proofs.Following as following
use Rattle.gw_rows.proofs.laws.rows_follow.Goals as goal

pub returns : goal.returns
returns c = following.rows_follow
