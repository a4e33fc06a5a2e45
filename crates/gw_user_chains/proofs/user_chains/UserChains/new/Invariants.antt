use Rattle.std.proofs.Common.{◌≡◌, [], map, replicate, Global}
use Rattle.std.specs.VecDeque.{deque_items}
use Rattle.gw_members.specs.declared.tx.Tx.{Tx}
use Rattle.gw_user_chains.proofs.user_chains.UserChains.new.Given as goal

abbrev pub invariant-loop : goal.invariant-loop
invariant-loop l = map (deque_items {X = Tx} {Z = Global}) l.chains.items ≡ replicate l.counter []
