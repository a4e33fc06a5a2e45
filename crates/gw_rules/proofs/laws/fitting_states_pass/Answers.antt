use Rattle.gw_rules.proofs.Monotone.{fitting_states_pass}
use Rattle.gw_rules.proofs.laws.fitting_states_pass.Goals as goal

pub returns : goal.returns
returns c = fitting_states_pass
