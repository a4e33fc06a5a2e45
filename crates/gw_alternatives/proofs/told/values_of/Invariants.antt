use Rattle.std.proofs.Common.{◌≡◌, map, take}
use Rattle.gw_alternatives.specs.Told.{value_in}
use Rattle.gw_alternatives.proofs.told.values_of.Given as goal

-- the values of the runs so far
abbrev pub invariant-loop-run : goal.invariant-loop-run
invariant-loop-run l = l.values.items ≡ map (value_in l.figure) (take l.run-index l.runs)
