use Rattle.std.proofs.Common.{inr, refl}
use Rattle.gw_batch.proofs.ByTicket.{line_of_memory}
use Rattle.gw_batch.proofs.told.told_refusal.Goals as goal

pub returns-in-Err : goal.returns-in-Err
returns-in-Err c = (refl, inr line_of_memory)
