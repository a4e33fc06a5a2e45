use Rattle.gw_num.proofs.Division.{division_law}
use Rattle.gw_num.proofs.laws.quotient_and_remainder.Goals as goal

pub returns : goal.returns
returns c = division_law
