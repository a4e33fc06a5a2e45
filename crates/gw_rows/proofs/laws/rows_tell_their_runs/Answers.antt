use Rattle.gw_rows.proofs.Telling as telling
use Rattle.gw_rows.proofs.laws.rows_tell_their_runs.Goals as goal

pub returns : goal.returns
returns c = telling.rows_tell_their_runs
