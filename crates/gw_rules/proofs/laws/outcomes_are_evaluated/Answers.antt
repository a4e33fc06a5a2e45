use Rattle.gw_rules.proofs.PlusTheorems.{outcomes_are_evaluated_law}
use Rattle.gw_rules.proofs.laws.outcomes_are_evaluated.Goals as goal

pub returns : goal.returns
returns c = outcomes_are_evaluated_law
