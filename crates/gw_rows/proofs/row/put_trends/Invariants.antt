-- the fields so far, and those of the figures that are left, are all; the changes are amounts, where those that are left are
use Rattle.std.proofs.Common.{◌≡◌, ◌++◌, drop}
use Rattle.gw_figures.specs.Labels.{labels}
use Rattle.gw_rows.specs.Reading.{MayBeAmounts}
use Rattle.gw_rows.specs.Rows.{texts, trend_fields}
use Rattle.gw_rows.proofs.row.put_trends.Given as goal

abbrev pub invariant-loop-i : goal.invariant-loop-i
invariant-loop-i l = record {
  fields : texts l.fields.items ++ trend_fields (labels (drop l.i l.figures)) l.i l.trends
      ≡ texts l.initial.fields.items ++ trend_fields (labels l.figures) 0 l.trends;
  range : MayBeAmounts (drop l.i (labels l.figures)) (drop l.i l.trends) → MayBeAmounts (labels l.figures) l.trends;
}
