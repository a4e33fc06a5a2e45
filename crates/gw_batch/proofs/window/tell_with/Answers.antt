use Rattle.std.proofs.Common.{List, map, subst}
use Rattle.gw_batch.specs.Batch.{Entry}
use Rattle.gw_batch.specs.Tickets.{StartWith}
use Rattle.gw_batch.specs.Waiting.{waiting_entry}
use Rattle.gw_batch.proofs.window.tell_with.Goals as goal

pub returns-in-Ok-clause-advances : goal.returns-in-Ok-clause-advances
returns-in-Ok-clause-advances g c =
    let es : List Entry = map waiting_entry c.args.waiting.now.items in
    let rest : List Entry = map waiting_entry c.submit_some.new.waiting.items in
    c.run_and_tell.ensures.advances es rest (subst (λ n. StartWith n es c.in-Ok.tickets.items rest) c.number-first.ensures c.in-Ok.ensures.tickets)

pub returns-in-Ok-clause-stops : goal.returns-in-Ok-clause-stops
returns-in-Ok-clause-stops g c =
    let es : List Entry = map waiting_entry c.args.waiting.now.items in
    let rest : List Entry = map waiting_entry c.submit_some.new.waiting.items in
    c.run_and_tell.ensures.stops es rest (subst (λ n. StartWith n es c.in-Ok.tickets.items rest) c.number-first.ensures c.in-Ok.ensures.tickets)
