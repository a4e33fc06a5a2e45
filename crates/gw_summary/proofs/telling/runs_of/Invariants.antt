-- what the runs so far and those of the lines that are left make is what all lines tell; and there are no more runs than lines so far
use Rattle.std.proofs.Common.{◌≤◌, ◌++◌, List, length, drop}
use Rattle.gw_figures.specs.Labels.{labels}
use Rattle.gw_figures.specs.declared.run.Run.{Run}
use Rattle.gw_summary.specs.Telling.{LinesTell, source}
use Rattle.gw_summary.proofs.telling.runs_of.Given as goal

abbrev pub invariant-loop-i : goal.invariant-loop-i
invariant-loop-i l =
    ((rest : List Run) → LinesTell (labels l.figures) (source l.study l.point) l.i (drop l.i l.lines) rest
    → LinesTell (labels l.figures) (source l.study l.point) 0 l.lines (l.runs.items ++ rest))
    × (length l.runs.items ≤ l.i)
