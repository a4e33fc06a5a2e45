use Rattle.gw_rules.proofs.WeightsPassing.{weights_pass_where_weighted}
use Rattle.gw_rules.proofs.laws.weights_pass_where_weighted.Goals as goal

pub returns : goal.returns
returns c = weights_pass_where_weighted
