use Rattle.std.proofs.Common.{◌≡◌, map}
use Rattle.std.specs.List.{range_with_len}
use Rattle.gw_report.specs.Figures.{figures_of_entity}
use Rattle.gw_report.proofs.figures.entities_of.Given as goal

-- those of the numbers so far
abbrev pub invariant-loop-i : goal.invariant-loop-i
invariant-loop-i l = l.entities.items ≡ map (figures_of_entity l.sim.state) (range_with_len 0 l.i)
