use Rattle.std.proofs.Common.{◌≡◌, ◌++◌, map, drop}
use Rattle.gw_figures.specs.Labels.{labels}
use Rattle.gw_alternatives.specs.Told.{series_of, series_from}
use Rattle.gw_alternatives.proofs.told.columns_of.Given as goal

-- what is there, and what is left to be told, are all
abbrev pub invariant-loop-i : goal.invariant-loop-i
invariant-loop-i l = map series_of l.columns.items ++ series_from l.all l.runs l.i (labels (drop l.i l.figures)) ≡ series_from l.all l.runs 0 (labels l.figures)
