use Rattle.std.proofs.Common.{◌≡◌, ◌++◌, drop}
use Rattle.gw_chart.specs.Contents.{contents_from}
use Rattle.gw_chart.proofs.contents.contents.Given as goal

-- what was put, and the contents that are left, are all contents
abbrev pub invariant-loop-i : goal.invariant-loop-i
invariant-loop-i l = l.row.items ++ contents_from l.sim.state l.i (drop l.i l.entities) ≡ contents_from l.sim.state 0 l.entities
