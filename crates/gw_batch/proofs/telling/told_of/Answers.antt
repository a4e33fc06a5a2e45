use Rattle.std.proofs.Common.{sym, subst}
use Rattle.gw_batch.specs.declared.ticket.Ticket.{Ticket}
use Rattle.gw_batch.specs.Tickets.{TellsTicket}
use Rattle.gw_batch.specs.Told.{told_text, told_refused}
use Rattle.gw_batch.proofs.ByTicket.{service_told}
use Rattle.gw_batch.proofs.telling.told_of.Goals as goal

pub returns-in-Submitted : goal.returns-in-Submitted
returns-in-Submitted g c =
    let told = service_told c.in-Submitted.pass.job c.in-Err.fault c.refusal_of_job.result.0 _ _ c.refusal_of_job.ensures c.told_refusal.ensures in
    subst (λ (t : Ticket). TellsTicket t (told_text c.told_refusal.result) (told_refused c.told_refusal.result)) (sym c.in-Submitted.is) told
