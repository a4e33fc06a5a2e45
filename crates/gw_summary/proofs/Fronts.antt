-- Differences behind other text.
use Rattle.std.proofs.Common.{◌≡◌, ◌∙◌, ◌++◌, ℕ, List, [], ◌∷◌, Option, Some, None, Bool, true, false, ap, sym, subst}
use Rattle.std.specs.Prelude.{MatchBool}
use Rattle.std.proofs.lemmas.List.{append_assoc}
use Rattle.gw_comparison.specs.Differences.{AddsMean, AddsDifference, AddsRow, AddsRowOf, AddsRows, AddsDifferences, title, heads}
use Rattle.gw_comparison.specs.Points.{column_of, is_told}
use Rattle.gw_writing.specs.Columns.{left}
use Rattle.gw_comparison.specs.Sheets.{AddsEach}
use Rattle.gw_comparison.specs.declared.point.Column.{Column}
use Rattle.gw_comparison.specs.declared.point.Point.{Point}
use Rattle.gw_alternatives.specs.Told.{AddsBlock, AddsAllDifferences}

module _ (front : List ℕ) where
  -- what is added is added behind the front too
  added : (old new text : List ℕ) → new ≡ old ++ text → front ++ new ≡ (front ++ old) ++ text
  added old new text is = ap (λ bs. front ++ bs) is ∙ sym (append_assoc front old text)

  mean : (column : Column) (old new : List ℕ) → AddsMean column old new → AddsMean column (front ++ old) (front ++ new)
  mean column old new h = record { account = h.account; said = h.said; row = added old new _ h.row }

  difference : (first second : Column) (old new : List ℕ) → AddsDifference first second old new → AddsDifference first second (front ++ old) (front ++ new)
  difference first second old new h = record { account = h.account; said = h.said; row = added old new _ h.row }

  row : (first second : Column) (old new : List ℕ) → AddsRow first second old new → AddsRow first second (front ++ old) (front ++ new)
  row first second old new h = record {
    behind_first = front ++ h.behind_first;
    behind_second = front ++ h.behind_second;
    at_first = subst (λ bs. AddsMean first bs (front ++ h.behind_first)) (sym (append_assoc front old (left 40 first.name.items)))
        (mean first (old ++ left 40 first.name.items) h.behind_first h.at_first);
    at_second = mean second h.behind_first h.behind_second h.at_second;
    difference = difference first second h.behind_second new h.difference;
  }

  row_of : (first : Column) (second : Option Column) (old new : List ℕ) → AddsRowOf first second old new → AddsRowOf first second (front ++ old) (front ++ new)
  row_of first None old new h = ap (λ bs. front ++ bs) h
  row_of first (Some second) old new h = row first second old new h

  row_by : (told : Bool) (first : Column) (second : Option Column) (old new : List ℕ) → MatchBool told (AddsRowOf first second old new) (new ≡ old)
      → MatchBool told (AddsRowOf first second (front ++ old) (front ++ new)) (front ++ new ≡ front ++ old)
  row_by true first second old new h = row_of first second old new h
  row_by false first second old new h = ap (λ bs. front ++ bs) h

  rows : (all : Bool) (firsts others : List Column) (old new : List ℕ) → AddsRows all firsts others old new
      → AddsRows all firsts others (front ++ old) (front ++ new)
  unfolding AddsRows
  rows all [] others old new h = ap (λ bs. front ++ bs) h
  rows all (first ∷ rest) others old new (middle, here, more) =
      (front ++ middle, row_by (is_told all first) first (column_of first.name.items others) old middle here, rows all rest others middle new more)

  differences : (all : Bool) (first second : Point) (old new : List ℕ) → AddsDifferences all first second old new
      → AddsDifferences all first second (front ++ old) (front ++ new)
  differences all first second old new h =
      let name = title first.name.items second.name.items in
      let over = heads first.name.items second.name.items in
      let same = sym (append_assoc front (old ++ name) over) ∙ ap (λ bs. bs ++ over) (sym (append_assoc front old name)) in
      subst (λ bs. AddsRows all first.columns.items second.columns.items bs (front ++ new)) same
      (rows all first.columns.items second.columns.items ((old ++ name) ++ over) new h)

  block : (all : Bool) (first second : Point) (old new : List ℕ) → AddsBlock all first second old new
      → AddsBlock all first second (front ++ old) (front ++ new)
  block all first second old new (told, here, is) = (front ++ told, differences all first second old told here, added told new (10 ∷ []) is)

  blocks : (all : Bool) (first : Point) (points : List Point) (old new : List ℕ) → AddsEach (AddsBlock all first) points old new
      → AddsEach (AddsBlock all first) points (front ++ old) (front ++ new)
  unfolding AddsEach
  blocks all first [] old new h = ap (λ bs. front ++ bs) h
  blocks all first (point ∷ rest) old new (middle, here, more) =
      (front ++ middle, block all first point old middle here, blocks all first rest middle new more)

  -- all differences behind a front are the same
  pub all_behind : (all : Bool) (points : List Point) (old new : List ℕ) → AddsAllDifferences all points old new
      → AddsAllDifferences all points (front ++ old) (front ++ new)
  all_behind all [] old new h = ap (λ bs. front ++ bs) h
  all_behind all (first ∷ rest) old new h = blocks all first rest old new h
