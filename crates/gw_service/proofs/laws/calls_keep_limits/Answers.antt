use Rattle.gw_service.proofs.laws.calls_keep_limits.Goals as goal
use Rattle.gw_service.proofs.Limits.{next_within, all_within}

pub returns-clause-one : goal.returns-clause-one
returns-clause-one c = next_within

pub returns-clause-all : goal.returns-clause-all
returns-clause-all c = all_within
