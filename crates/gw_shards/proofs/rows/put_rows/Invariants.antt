-- the rows so far, and those of the runs that are left, are all; the numbers of the runs so far are in range
use Rattle.std.proofs.Common.{◌≡◌, ◌+◌, ◌++◌, drop, take}
use Rattle.std.specs.List.{All}
use Rattle.gw_figures.specs.Labels.{labels}
use Rattle.gw_rows.specs.Reading.{MayBeInRange}
use Rattle.gw_rows.specs.Rows.{rows_from, source_of}
use Rattle.gw_shards.proofs.rows.put_rows.Given as goal

abbrev pub invariant-loop-i : goal.invariant-loop-i
invariant-loop-i l = record {
  rows : l.out.items ++ rows_from (labels l.figures) (source_of l.origin) (l.first + l.i) (drop l.i l.runs)
      ≡ l.initial.out.items ++ rows_from (labels l.figures) (source_of l.origin) l.first l.runs;
  range : All (MayBeInRange (labels l.figures)) (take l.i l.runs);
}
