use Rattle.gw_rows.proofs.Apart as apart
use Rattle.gw_rows.proofs.laws.rows_are_no_refusals.Goals as goal

pub returns : goal.returns
returns c = apart.rows_are_no_refusals
