use Rattle.gw_answers.proofs.Finding.{refusal_in}
use Rattle.gw_answers.proofs.job.spec_in.Goals as goal

pub returns-in-Err-clause-found : goal.returns-in-Err-clause-found
returns-in-Err-clause-found c =
    refusal_in c.args.model.now.statements.items c.args.seed c.args.count c.no_job.result c.in-Err.fault c.no_job.ensures c.in-Err.ensures.refused
