-- the digits so far are read; where they pass all measure, the greatest number stands
use Rattle.std.proofs.Common.{◌≡◌, ◌-◌, ◌^◌, min, take}
use Rattle.gw_rows.proofs.Decimals.{onto}
use Rattle.gw_rows.proofs.amounts.whole_in.Given as goal

abbrev pub invariant-loop-digit : goal.invariant-loop-digit
invariant-loop-digit l = l.value ≡ min (2 ^ 128 - 1) (onto 0 (take l.digit-index l.digits))
