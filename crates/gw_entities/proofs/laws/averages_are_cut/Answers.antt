use Rattle.gw_entities.proofs.Averages.{averages_are_cut}
use Rattle.gw_entities.proofs.laws.averages_are_cut.Goals as goal

pub returns : goal.returns
returns c = averages_are_cut
