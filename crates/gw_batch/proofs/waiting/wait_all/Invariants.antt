use Rattle.std.proofs.Common.{◌≡◌, ◌++◌, map, length}
use Rattle.gw_batch.specs.Batch.{entry_of}
use Rattle.gw_batch.specs.Waiting.{waiting_entry}
use Rattle.gw_batch.proofs.waiting.wait_all.Given as goal

abbrev pub invariant-loop-entry : goal.invariant-loop-entry
invariant-loop-entry l = map waiting_entry l.all.items ++ map entry_of l.entries.items ≡ map entry_of l.fn.entries.items

abbrev pub decreases-loop-entry : goal.decreases-loop-entry
decreases-loop-entry l = length l.entries.items
