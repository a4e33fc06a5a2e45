use Rattle.gw_rows.proofs.Changing as changing
use Rattle.gw_rows.proofs.laws.changes_are_told.Goals as goal

pub returns : goal.returns
returns c = changing.changes_are_told
