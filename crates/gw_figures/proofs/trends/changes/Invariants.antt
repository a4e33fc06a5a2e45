use Rattle.std.proofs.Common.{◌≡◌, ◌++◌, drop}
use Rattle.gw_figures.specs.Labels.{labels}
use Rattle.gw_figures.specs.Trends.{changes_from}
use Rattle.gw_figures.proofs.trends.changes.Given as goal

-- what is there, and the changes that are left, are all
abbrev pub invariant-loop-i : goal.invariant-loop-i
invariant-loop-i l = l.out.items ++ changes_from l.before l.after l.i (labels (drop l.i l.figures)) ≡ changes_from l.before l.after 0 (labels l.figures)
