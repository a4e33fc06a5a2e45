use Rattle.gw_rows.proofs.Digits as digits
use Rattle.gw_rows.proofs.laws.digests_are_plain.Goals as goal

pub returns : goal.returns
returns c = digits.digests_are_plain
