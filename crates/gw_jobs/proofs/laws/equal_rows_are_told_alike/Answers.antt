use Rattle.gw_jobs.proofs.Alike.{equal_rows_are_told_alike}
use Rattle.gw_jobs.proofs.laws.equal_rows_are_told_alike.Goals as goal

pub returns : goal.returns
returns c = equal_rows_are_told_alike
