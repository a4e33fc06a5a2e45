-- the digits so far are read, where zeros follow them
use Rattle.std.proofs.Common.{◌≡◌, ◌-◌, ◌^◌, ◌++◌, min, take, replicate}
use Rattle.gw_rows.proofs.Decimals.{onto}
use Rattle.gw_rows.proofs.amounts.millionths_in.Given as goal

abbrev pub invariant-loop-i : goal.invariant-loop-i
invariant-loop-i l = l.value ≡ min (2 ^ 128 - 1) (onto 0 (take l.i (l.digits ++ replicate 6 48)))
