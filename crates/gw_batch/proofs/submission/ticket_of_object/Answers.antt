use Rattle.gw_batch.proofs.ByTicket.{memory_ticket}
use Rattle.gw_batch.proofs.submission.ticket_of_object.Goals as goal

pub returns-in-Err-OutOfMemory : goal.returns-in-Err-OutOfMemory
returns-in-Err-OutOfMemory g c = memory_ticket c.args.number c.args.bytes.now c.want_of_memory.result.0 c.want_of_memory.ensures
