use Rattle.std.proofs.Common.{true, sym, subst}
use Rattle.gw_console.specs.Output.{memory_line}
use Rattle.gw_batch.specs.declared.waiting.Waiting.{Waiting}
use Rattle.gw_batch.specs.Parts.{IsTold}
use Rattle.gw_batch.specs.Waiting.{waiting_entry}
use Rattle.gw_batch.proofs.ByTicket.{object_without}
use Rattle.gw_batch.proofs.window.told_without.Goals as goal

pub returns-in-Object : goal.returns-in-Object
returns-in-Object c = subst (λ (w : Waiting). IsTold (waiting_entry w) memory_line true) (sym c.in-Object.is) (object_without c.in-Object.field-0.items)
