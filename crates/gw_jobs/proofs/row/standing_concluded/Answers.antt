use Rattle.gw_jobs.proofs.Holding.{stands_concluded}
use Rattle.gw_jobs.proofs.row.standing_concluded.Goals as goal

pub returns-clause-standing : goal.returns-clause-standing
returns-clause-standing c = (stands_concluded c.args.sim c.args.conclusion c.requires).standing
