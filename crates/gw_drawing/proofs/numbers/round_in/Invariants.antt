use Rattle.std.proofs.Common.{◌≡◌, drop}
use Rattle.gw_drawing.specs.Numbers.{round_in}
use Rattle.gw_drawing.proofs.numbers.round_in.Given as goal

-- the powers that are left give the same number
abbrev pub invariant-loop-i : goal.invariant-loop-i
invariant-loop-i l = round_in (drop l.i l.powers) l.least ≡ round_in l.powers l.least
