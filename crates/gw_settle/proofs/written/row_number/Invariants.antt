use Rattle.std.proofs.Common.{◌≡◌, false, take}
use Rattle.gw_settle.specs.Numbers.{sets_of, has_set}
use Rattle.gw_settle.proofs.written.row_number.Given as goal

-- none so far has these blocks
abbrev pub invariant-loop-i : goal.invariant-loop-i
invariant-loop-i l = has_set (sets_of (take l.i l.returns)) l.blocks ≡ false
