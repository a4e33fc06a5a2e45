use Rattle.std.proofs.Common.{rules}
use Rattle.gw_answers.specs.Assembly.{HasStatements}
use Rattle.gw_answers.proofs.Finding.{found_by_reading}
use Rattle.gw_answers.proofs.job.spec_of_text.Goals as goal

pub returns-in-Ok-clause-found : goal.returns-in-Ok-clause-found
returns-in-Ok-clause-found c =
    let read : HasStatements c.args.text.now c.in-Ok.model.statements.items = search rules in
    found_by_reading c.args.text.now c.in-Ok.model.statements.items c.args.seed c.args.count c.spec_in-spec.result c.requires read c.spec_in-spec.ensures.found
