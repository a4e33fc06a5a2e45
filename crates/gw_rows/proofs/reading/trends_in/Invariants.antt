-- the parts from this place on are those of the changes that are left
use Rattle.std.proofs.Common.{◌≡◌, ◌≤◌, ◌+◌, ℕ, length, map, drop, take}
use Rattle.std.specs.List.{AllZip}
use Rattle.gw_figures.specs.Labels.{labels}
use Rattle.gw_figures.specs.declared.run.Run.{Run}
use Rattle.gw_rows.specs.Reading.{AreFieldsOf, MayChange}
use Rattle.gw_rows.specs.Rows.{Source, trend_fields}
use Rattle.gw_rows.proofs.reading.trends_in.Given as goal

abbrev pub invariant-loop-i : goal.invariant-loop-i
invariant-loop-i l = record {
  within : l.place ≤ 9 + length l.figures + l.i;
  may : AllZip MayChange (take l.i (labels l.figures)) l.trends.items;
  left : (s : Source) (number : ℕ) (run : Run) → AreFieldsOf (labels l.figures) s number run (map (λ p. p.now) l.parts)
      → drop l.place (map (λ p. p.now) l.parts) ≡ trend_fields (drop l.i (labels l.figures)) l.i run.trend.items;
  read : (s : Source) (number : ℕ) (run : Run) → AreFieldsOf (labels l.figures) s number run (map (λ p. p.now) l.parts)
      → l.trends.items ≡ take l.i run.trend.items;
}
