use Rattle.std.proofs.Common.{◌≡◌, ◌≤◌, ◌-◌, length}
use Rattle.std.specs.Io.KnownBytes.{Consumes}
use Rattle.gw_console.proofs.input.read_front.Given as goal

abbrev pub invariant-loop-input : goal.invariant-loop-input
invariant-loop-input g l =
    record {
      within : length l.input.items ≤ l.most;
      taken : Consumes l.initial.reader.left l.reader.left l.input.items;
      unfailed : l.reader.failed ≡ l.initial.reader.failed;
    }

abbrev pub decreases-loop-input : goal.decreases-loop-input
decreases-loop-input g l = l.most - length l.input.items
