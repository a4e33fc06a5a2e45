use Rattle.gw_rules.proofs.AllPass.{checked_where_all_pass}
use Rattle.gw_rules.proofs.laws.checked_where_all_pass.Goals as goal

pub returns : goal.returns
returns c = checked_where_all_pass
