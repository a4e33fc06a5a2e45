use Rattle.std.proofs.Common.{◌≡◌, ◌+◌, map, length}
use Rattle.std.specs.Io.KnownBytes.{Keeps}
use Rattle.gw_batch.specs.Waiting.{waiting_entry}
use Rattle.gw_batch.specs.Writing.{stage, Advances}
use Rattle.gw_batch.proofs.answer.tell_waiting.Given as goal

abbrev pub invariant-loop-alloc : goal.invariant-loop-alloc
invariant-loop-alloc g l = record {
  advanced : Advances (stage l.fn.telling (map waiting_entry l.fn.waiting.items) l.fn.writer.held)
      (stage l.telling (map waiting_entry l.waiting.items) l.writer.held);
  count : l.telling.number + length l.waiting.items ≡ length l.fn.waiting.items;
  nothing : l.telling.number ≡ 0 → Keeps l.fn.writer.held l.writer.held;
  unfailed : l.writer.failed ≡ l.fn.writer.failed;
}

abbrev pub decreases-loop-alloc : goal.decreases-loop-alloc
decreases-loop-alloc g l = length l.waiting.items
