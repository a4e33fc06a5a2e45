use Rattle.std.proofs.Common.{◌≡◌, ◌-◌, map}
use Rattle.std.specs.List.{range_with_len}
use Rattle.gw_figures.specs.Windows.{class_at}
use Rattle.gw_figures.proofs.classes.rises.Given as goal

-- those of the classes so far
abbrev pub invariant-loop-i : goal.invariant-loop-i
invariant-loop-i l = l.rises.items ≡ map (λ i. class_at l.after i - class_at l.before i) (range_with_len 0 l.i)
