use Rattle.gw_jobs.proofs.Holding.{stands_ended, stands_ready}
use Rattle.gw_jobs.proofs.row.standing_with.Goals as goal

pub returns-in-Ended-clause-holds : goal.returns-in-Ended-clause-holds
returns-in-Ended-clause-holds c = (stands_ended c.args.sim c.in-Ended.field-0 c.status.ensures.reached c.in-Ended.ensures.value).holds

pub returns-in-Ended-clause-standing : goal.returns-in-Ended-clause-standing
returns-in-Ended-clause-standing c = (stands_ended c.args.sim c.in-Ended.field-0 c.status.ensures.reached c.in-Ended.ensures.value).standing

pub returns-in-Running-clause-holds : goal.returns-in-Running-clause-holds
returns-in-Running-clause-holds c = (stands_ready c.args.sim c.status.ensures.reached c.in-Running.ensures.value).holds

pub returns-in-Running-clause-standing : goal.returns-in-Running-clause-standing
returns-in-Running-clause-standing c = (stands_ready c.args.sim c.status.ensures.reached c.in-Running.ensures.value).standing

pub returns-in-Ended-clause-fits : goal.returns-in-Ended-clause-fits
returns-in-Ended-clause-fits c = c.status.ensures.reached.fits

pub returns-in-Running-clause-fits : goal.returns-in-Running-clause-fits
returns-in-Running-clause-fits c = c.status.ensures.reached.fits
