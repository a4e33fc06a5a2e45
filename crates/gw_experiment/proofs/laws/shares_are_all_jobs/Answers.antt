use Rattle.gw_experiment.proofs.Dividing.{all_jobs}
use Rattle.gw_experiment.proofs.laws.shares_are_all_jobs.Goals as goal

pub returns : goal.returns
returns c = all_jobs
