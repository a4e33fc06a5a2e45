use Rattle.gw_service.proofs.laws.users_are_isolated.Goals as goal
use Rattle.gw_service.proofs.Alike.{all_alike, fronts_are_told_first}

pub returns-clause-all : goal.returns-clause-all
returns-clause-all c = all_alike

pub returns-clause-fronts : goal.returns-clause-fronts
returns-clause-fronts c = fronts_are_told_first
