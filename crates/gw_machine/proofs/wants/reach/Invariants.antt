use Rattle.std.proofs.Common.{◌≡◌, ◌+◌, ◌-◌, ℕ, [], map, vec_len}
use Rattle.gw_num.specs.Table.{at}
use Rattle.gw_machine.specs.Known.{wants_of}
use Rattle.gw_machine.proofs.wants.reach.Given as goal

-- the same is known of each list as before
abbrev pub invariant-loop-alloc : goal.invariant-loop-alloc
invariant-loop-alloc l = (k : ℕ) → at [] (map wants_of l.lists.items) k ≡ at [] (map wants_of l.fn.lists.items) k

abbrev pub decreases-loop-alloc : goal.decreases-loop-alloc
decreases-loop-alloc l = l.e + 1 - vec_len l.lists
