use Rattle.std.proofs.Common.{◌≡◌, ◌≤◌, ◌<◌, ℕ}
use Rattle.gw_num.specs.Table.{at}
use Rattle.gw_members.specs.Lists.{LosesRoom}
use Rattle.gw_chains.proofs.waits.Waits.reserve.Given as goal

abbrev pub invariant-loop-e : goal.invariant-loop-e
invariant-loop-e l = record {
  lists : l.self.lists ≡ l.fn.self.lists;
  retry : l.self.retry ≡ l.fn.self.retry;
  kept : LosesRoom 0 l.fn.self.rooms l.self.rooms;
  retry_kept : l.fn.self.retry_room ≤ l.self.retry_room;
  retry_room : l.more ≤ l.self.retry_room;
  room : (k : ℕ) → k < l.e → l.more ≤ at 0 l.self.rooms k;
}
