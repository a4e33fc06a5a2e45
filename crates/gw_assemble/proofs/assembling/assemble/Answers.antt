use Rattle.gw_assemble.proofs.Completed.{on_ok, assembles}
use Rattle.gw_assemble.proofs.assembling.assemble.Goals as goal

pub returns-in-Ok-clause-assembled : goal.returns-in-Ok-clause-assembled
returns-in-Ok-clause-assembled c =
    on_ok c.finish.result (λ v h. assembles c.args.model.now.statements.items c.in-Ok.parts v c.in-Ok.ensures.made h c.in-Ok.ensures.draft)
    c.finish.ensures.accepted
