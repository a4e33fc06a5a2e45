use Rattle.std.proofs.Common.{List, ◌∷◌, [], length, length-append, ap, arith, ◌∙◌}
use Rattle.gw_batch.specs.declared.ticket.Ticket.{Ticket}
use Rattle.gw_batch.specs.declared.waiting.Waiting.{Waiting}
use Rattle.gw_batch.proofs.Started.{one_submitted}
use Rattle.gw_batch.proofs.submission.submit_some.Goals as goal

pub loop-alloc-preserved : goal.loop-alloc-preserved
loop-alloc-preserved g c =
    let old = c.loop-alloc.tickets.items in
    let split = c.in-Some.ensures.items in
    let pushed = c.push_back_reserved.ensures.items in
    let size = ap (λ (ws : List Waiting). length ws) split in
    let long = ap (λ (ts : List Ticket). length ts) pushed ∙ length-append old (c.ticket_of-ticket.result ∷ []) in
    record {
      started = one_submitted c.args.first _ _ old _ c.in-Some.entry _ _ _
          (omega (arith, c.loop-alloc.tickets.ok.0, c.len-in-Some.ensures)) split pushed c.loop-alloc.invariant.started c.ticket_of-ticket.ensures;
      room = omega arith;
      none = λ none. absurd (omega (arith, long, none));
      count = omega (arith, c.loop-alloc.invariant.count, size, long);
    }
