use Rattle.gw_service.proofs.laws.services_are_kept.Goals as goal
use Rattle.gw_service.proofs.Kept.{next_kept, all_kept}

pub returns-clause-one : goal.returns-clause-one
returns-clause-one c = next_kept

pub returns-clause-all : goal.returns-clause-all
returns-clause-all c = all_kept
