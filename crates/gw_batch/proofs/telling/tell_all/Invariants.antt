use Rattle.std.proofs.Common.{◌≡◌, ◌+◌, List, length}
use Rattle.gw_batch.specs.Batch.{Entry}
use Rattle.gw_batch.specs.Tickets.{StartWith}
use Rattle.gw_batch.specs.Writing.{stage}
use Rattle.gw_batch.proofs.Started.{Reaches}
use Rattle.gw_batch.proofs.telling.tell_all.Given as goal

abbrev pub invariant-loop-ticket : goal.invariant-loop-ticket
invariant-loop-ticket g l = record {
  reached : (es rest : List Entry) → StartWith l.fn.telling.number es l.fn.tickets.items rest
      → Reaches (stage l.fn.telling es l.fn.writer.held) l.telling l.tickets.items rest l.writer.held;
  count : l.telling.number + length l.tickets.items ≡ l.fn.telling.number + length l.fn.tickets.items;
  unfailed : l.writer.failed ≡ l.fn.writer.failed;
}

abbrev pub decreases-loop-ticket : goal.decreases-loop-ticket
decreases-loop-ticket g l = length l.tickets.items
