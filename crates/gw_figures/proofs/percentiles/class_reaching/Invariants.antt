use Rattle.std.proofs.Common.{◌≡◌, ◌≤◌, ◌+◌, ◌-◌, length, drop}
use Rattle.gw_figures.specs.Values.{class_reaching}
use Rattle.gw_figures.proofs.percentiles.class_reaching.Given as goal

-- the class is looked for from here on
abbrev pub invariant-loop-place : goal.invariant-loop-place
invariant-loop-place l = (l.place ≤ length l.classes) × (class_reaching l.goal l.classes ≡ class_reaching l.left (drop l.place l.classes) + l.place)

abbrev pub decreases-loop-place : goal.decreases-loop-place
decreases-loop-place l = length l.classes - l.place
