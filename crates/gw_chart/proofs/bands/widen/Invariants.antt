use Rattle.std.proofs.Common.{◌≡◌, ◌++◌, take, drop, length}
use Rattle.gw_chart.specs.Bands.{widened_from}
use Rattle.gw_chart.proofs.bands.widen.Given as goal

-- what was widened, and what is left once it is, are all
abbrev pub invariant-loop-i : goal.invariant-loop-i
invariant-loop-i l =
    (take l.i l.bands.items ++ widened_from l.sim.state l.i (drop l.i l.entities) (drop l.i l.bands.items)
    ≡ widened_from l.sim.state 0 l.entities l.initial.bands.items)
    × (length l.bands.items ≡ length l.entities)
