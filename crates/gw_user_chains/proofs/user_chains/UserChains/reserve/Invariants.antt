use Rattle.std.proofs.Common.{◌≡◌, ◌≤◌, ◌<◌, ℕ}
use Rattle.gw_num.specs.Table.{at}
use Rattle.gw_members.specs.Lists.{LosesRoom}
use Rattle.gw_user_chains.proofs.user_chains.UserChains.reserve.Given as goal

abbrev pub invariant-loop-c : goal.invariant-loop-c
invariant-loop-c l = record {
  lists : l.self.lists ≡ l.fn.self.lists;
  kept : LosesRoom 0 l.fn.self.rooms l.self.rooms;
  room : (k : ℕ) → k < l.c → l.more ≤ at 0 l.self.rooms k;
}
