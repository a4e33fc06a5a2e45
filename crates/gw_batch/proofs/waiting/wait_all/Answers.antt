use Rattle.std.proofs.Common.{arith}
use Rattle.gw_batch.proofs.Waits.{all_wait}
use Rattle.gw_batch.proofs.waiting.wait_all.Goals as goal

pub returns : goal.returns
returns c = all_wait c.loop-entry.all.items c.loop-entry.entries.items _
    (omega (arith, c.in_default.ensures.cases.0, c.loop-entry.entries.ok.0)) c.loop-entry.invariant
