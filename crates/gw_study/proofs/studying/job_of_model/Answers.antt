use Rattle.gw_study.proofs.Found.{counted_found}
use Rattle.gw_study.proofs.studying.job_of_model.Goals as goal

pub returns-in-Ok-clause-found : goal.returns-in-Ok-clause-found
returns-in-Ok-clause-found c =
    counted_found c.args.model.now c.args.count c.in-Ok.spec c.counted-found.result c.in-Ok.ensures.found c.counted-found.ensures.found
