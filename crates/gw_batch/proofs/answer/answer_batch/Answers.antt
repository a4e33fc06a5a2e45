use Rattle.std.proofs.Common.{map, ap, ◌∙◌}
use Rattle.gw_batch.specs.Batch.{entry_of}
use Rattle.gw_batch.specs.Parts.{status_if}
use Rattle.gw_batch.specs.Waiting.{waiting_entry}
use Rattle.gw_batch.proofs.Windows.{err_same, batch_left, batch_told}
use Rattle.gw_batch.proofs.answer.answer_batch.Goals as goal

pub returns-in_err-tell_waiting-clause-left : goal.returns-in_err-tell_waiting-clause-left
returns-in_err-tell_waiting-clause-left g c =
    let left = batch_left c.in-Ok-new.telling (map waiting_entry c.in-Ok.waiting.items) (map entry_of c.args.entries.items)
    c.args.writer.now.held c.tell_waiting.new.writer.held _
    c.in-Ok-new.ensures c.in-Ok.ensures c.in_err-tell_waiting.ensures.stops in
    err_same _ c.from_residual.result _ c.from_residual.ensures.1 left

pub returns-clause-whole : goal.returns-clause-whole
returns-clause-whole g c =
    batch_told c.in-Ok-new.telling c.tell_waiting.new.telling (map waiting_entry c.in-Ok.waiting.items) (map entry_of c.args.entries.items)
    c.args.writer.now.held c.tell_waiting.new.writer.held c.status_of.result
    c.in-Ok-new.ensures c.in-Ok.ensures c.in_ok-tell_waiting.ensures.advances (c.status_of.ensures ∙ ap status_if c.has_refused.ensures)
