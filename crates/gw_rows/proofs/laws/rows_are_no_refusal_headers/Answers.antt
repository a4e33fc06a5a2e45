use Rattle.gw_rows.proofs.Apart as apart
use Rattle.gw_rows.proofs.laws.rows_are_no_refusal_headers.Goals as goal

pub returns : goal.returns
returns c = apart.rows_are_no_refusal_headers
