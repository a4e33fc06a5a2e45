use Rattle.gw_settle.proofs.Kept.{start_kept, visits_keep}
use Rattle.gw_settle.proofs.laws.rounds_keep.Goals as goal

pub returns-clause-start : goal.returns-clause-start
returns-clause-start c = start_kept

pub returns-clause-visits : goal.returns-clause-visits
returns-clause-visits c = visits_keep
