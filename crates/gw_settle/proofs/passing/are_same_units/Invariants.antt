use Rattle.std.proofs.Common.{◌≡◌, take}
use Rattle.gw_flow.specs.Known.{amounts_of}
use Rattle.gw_settle.proofs.passing.are_same_units.Given as goal

abbrev pub invariant-loop-i : goal.invariant-loop-i
invariant-loop-i l = amounts_of (take l.i l.units) ≡ amounts_of (take l.i l.others)
