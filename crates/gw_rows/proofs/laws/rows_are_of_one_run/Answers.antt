use Rattle.gw_rows.proofs.Telling as telling
use Rattle.gw_rows.proofs.laws.rows_are_of_one_run.Goals as goal

pub returns : goal.returns
returns c = telling.rows_are_of_one_run
