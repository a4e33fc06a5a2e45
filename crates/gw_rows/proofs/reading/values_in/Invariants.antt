-- the values so far are read
use Rattle.std.proofs.Common.{◌≡◌, ℕ, List, length, map, take}
use Rattle.gw_figures.specs.Labels.{Label}
use Rattle.gw_figures.specs.declared.run.Run.{Run}
use Rattle.gw_rows.specs.Reading.{AreFieldsOf}
use Rattle.gw_rows.specs.Rows.{Source}
use Rattle.gw_rows.proofs.reading.values_in.Given as goal

abbrev pub invariant-loop-i : goal.invariant-loop-i
invariant-loop-i l = record {
  many : length l.values.items ≡ l.i;
  read : (labels : List Label) (s : Source) (number : ℕ) (run : Run) → AreFieldsOf labels s number run (map (λ p. p.now) l.parts)
      → length labels ≡ length l.figures → l.values.items ≡ take l.i run.values.items;
}
