use Rattle.std.proofs.Common.{◌≡◌, take}
use Rattle.gw_settle.proofs.sets.count_common.Given as goal

-- the lists are the same so far
abbrev pub invariant-loop-i : goal.invariant-loop-i
invariant-loop-i l = take l.i l.numbers ≡ take l.i l.others
