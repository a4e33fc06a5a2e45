use Rattle.std.proofs.Common.{◌≡◌, map}
use Rattle.std.specs.List.{range_with_len}
use Rattle.gw_report.specs.Figures.{classes_of}
use Rattle.gw_report.proofs.figures.classes_of_tables.Given as goal

-- those of the numbers so far
abbrev pub invariant-loop-i : goal.invariant-loop-i
invariant-loop-i l = map (λ c. c.items) l.classes.items ≡ map (classes_of l.sim.state) (range_with_len 0 l.i)
