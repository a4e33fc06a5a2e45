use Rattle.planner.proofs.Telling.{told}
use Rattle.planner.proofs.program.tell_code.Goals as goal

pub returns : goal.returns
returns g c = told _ c.explain_code.result c.or_no_memory.result _ _ _ c.explain_code.ensures c.or_no_memory.ensures c.deliver.ensures.bytes
