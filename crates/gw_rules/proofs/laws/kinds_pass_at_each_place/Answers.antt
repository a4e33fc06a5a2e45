use Rattle.gw_rules.proofs.KindsHold.{kinds_pass_at_each_place}
use Rattle.gw_rules.proofs.laws.kinds_pass_at_each_place.Goals as goal

pub returns : goal.returns
returns c = kinds_pass_at_each_place
