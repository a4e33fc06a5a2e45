use Rattle.std.proofs.Common.{List, length, ap, arith, refl, ◌∙◌}
use Rattle.gw_batch.specs.declared.ticket.Ticket.{Ticket}
use Rattle.gw_batch.proofs.Started.{next_told, next_stopped, on_err, tickets_told}
use Rattle.gw_batch.proofs.Stages.{stay}
use Rattle.gw_batch.proofs.telling.tell_all.Goals as goal

pub loop-ticket-init : goal.loop-ticket-init
loop-ticket-init g c = record { reached = λ es rest start. (es, start, stay _); count = refl; unfailed = refl }

pub loop-ticket-preserved : goal.loop-ticket-preserved
loop-ticket-preserved g c =
    let split = c.in-Some.ensures.items in
    let size = ap (λ (ts : List Ticket). length ts) split in
    let told = c.in_ok-tell.ensures in
    record {
      reached = λ es rest start. next_told _ _ _ c.in-Some.ticket _ _ rest _ _ _ _ split c.told_of-told.ensures told.bytes told.number
          told.refused (c.loop-ticket.invariant.reached es rest start);
      count = omega (arith, c.loop-ticket.invariant.count, size, told.number);
      unfailed = told.marks ∙ c.loop-ticket.invariant.unfailed;
    }

pub returns-in_err-tell-clause-halts : goal.returns-in_err-tell-clause-halts
returns-in_err-tell-clause-halts g c = λ es rest start.
    on_err c.from_residual.result
    (next_stopped _ _ c.in-Some.ticket _ _ rest _ _ _ _ c.in-Some.ensures.items c.told_of-told.ensures c.in_err-tell.ensures.bytes.1
    (c.loop-ticket.invariant.reached es rest start))

pub returns-clause-advances : goal.returns-clause-advances
returns-clause-advances g c = λ es rest start.
    tickets_told _ _ c.loop-ticket.tickets.items rest _ (omega (arith, c.in_default.ensures.cases.0, c.loop-ticket.tickets.ok.0))
    (c.loop-ticket.invariant.reached es rest start)
