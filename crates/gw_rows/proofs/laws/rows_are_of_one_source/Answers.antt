use Rattle.gw_rows.proofs.OneSource as one_source
use Rattle.gw_rows.proofs.laws.rows_are_of_one_source.Goals as goal

pub returns : goal.returns
returns c = one_source.rows_are_of_one_source
