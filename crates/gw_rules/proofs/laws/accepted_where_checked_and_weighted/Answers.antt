use Rattle.gw_rules.proofs.AllPass.{accepted_where_checked_and_weighted}
use Rattle.gw_rules.proofs.laws.accepted_where_checked_and_weighted.Goals as goal

pub returns : goal.returns
returns c = accepted_where_checked_and_weighted
