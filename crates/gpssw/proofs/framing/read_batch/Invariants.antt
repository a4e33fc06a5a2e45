use Rattle.std.proofs.Common.{◌≡◌, ◌-◌, ◌*◌}
use Rattle.gw_console.specs.Calls.{LosesAtMost}
use Rattle.gpssw.proofs.Entries.{GoesOn}
use Rattle.gpssw.proofs.framing.read_batch.Given as goal

abbrev pub invariant-loop : goal.invariant-loop
invariant-loop g l =
    record {
      goes_on : GoesOn (1024 - l.counter) l.entries.items l.initial.reader.left l.reader.left;
      lost : LosesAtMost (l.counter * 1048580) l.initial.reader.left l.reader.left;
      unfailed : l.reader.failed ≡ l.initial.reader.failed;
    }
