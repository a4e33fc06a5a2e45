use Rattle.gw_experiment.proofs.Dividing.{runs_of_jobs}
use Rattle.gw_experiment.proofs.laws.runs_are_jobs.Goals as goal

pub returns : goal.returns
returns c = runs_of_jobs
