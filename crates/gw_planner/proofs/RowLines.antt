-- The lines of the rows of runs that follow one another.
use Rattle.std.proofs.Common.{◌≡◌, ◌∙◌, ◌⊎◌, ◌+◌, ◌++◌, ℕ, zero, suc, List, [], ◌∷◌, Some, refl, arith, ap, subst, inl, inr}
use Rattle.std.specs.Prelude.{slice_get}
use Rattle.std.specs.List.{All, Contains, flat_map}
use Rattle.std.proofs.lemmas.List.Elements.{All-cons, Contains-append_cases, Contains-append_right}
use Rattle.gw_figures.specs.Labels.{Label}
use Rattle.gw_figures.specs.declared.run.Run.{Run}
use Rattle.gw_rows.specs.Reading.{IsLine, IsReadable, IsWithoutFeed}
use Rattle.gw_rows.specs.Rows.{Source, row, rows_from}
use Rattle.gw_rows.proofs.RowLines.{line_of_row}
use Rattle.gw_summary.proofs.Taking.{itself, none_there, only}

-- a line is the row of the run at a place, from a number on
abbrev pub IsRowAtPlace : List Label → Source → ℕ → ℕ → Run → List ℕ → Type 0
IsRowAtPlace labels s number place run line = IsLine line (row labels s (number + place) run)

-- the lines of runs from a number on
pub record RowLines (labels : List Label) (s : Source) (number : ℕ) (runs : List Run) : Type 0 where
  pub lines : List (List ℕ)
  pub whole : rows_from labels s number runs ≡ flat_map (λ l. l ++ 10 ∷ []) lines
  pub each : All IsWithoutFeed lines
  pub rows : (place : ℕ) (run : Run) → slice_get runs place ≡ Some run
      → (line : List ℕ) × IsRowAtPlace labels s number place run line × Contains lines line
  pub from : (line : List ℕ) → Contains lines line
      → (place : ℕ) × (run : Run) × (slice_get runs place ≡ Some run) × IsRowAtPlace labels s number place run line

-- each run from a number on can be read
abbrev pub AreReadable : List Label → Source → ℕ → List Run → Type 0
AreReadable labels s number runs =
    (place : ℕ) (run : Run) → slice_get runs place ≡ Some run → IsReadable labels s (number + place) run

some_is : (run it : Run) → slice_get (run ∷ []) 0 ≡ Some it → run ≡ it
some_is run it is = cc

pub row_lines : (labels : List Label) (s : Source) (number : ℕ) (runs : List Run) → AreReadable labels s number runs → RowLines labels s number runs
row_lines labels s number [] readable = record {
  lines = [];
  whole = refl;
  each = λ k d h. absurd (omega (arith, h));
  rows = λ place run at. absurd (none_at place run at);
  from = λ line h. none_there line h;
}
  where
    none_at : (place : ℕ) (run : Run) → slice_get [] place ≡ Some run → ⊥
    none_at zero run at = absurd cc
    none_at (suc place) run at = absurd cc
row_lines labels s number (run ∷ runs) readable =
    let here : number + 0 ≡ number = omega arith in
    let behind : (place : ℕ) → number + suc place ≡ (number + 1) + place = λ place. omega arith in
    let first = line_of_row labels s number run (subst (λ n. IsReadable labels s n run) here (readable 0 run refl)) in
    let others = row_lines labels s (number + 1) runs
    (λ place it at. subst (λ n. IsReadable labels s n it) (behind place) (readable (suc place) it at)) in
    record {
      lines = first.line ∷ others.lines;
      whole = ap (λ t. t ++ rows_from labels s (number + 1) runs) first.is
          ∙ ap (λ t. (first.line ++ 10 ∷ []) ++ t) others.whole;
      each = All-cons IsWithoutFeed first.line others.lines first.one others.each;
      rows = λ place it at. by_place first.line first.is others place it at;
      from = λ line h. by_line first.line first.is others line (Contains-append_cases (first.line ∷ []) others.lines line h);
    }
  where
    by_place : (line : List ℕ) → IsLine line (row labels s number run) → (others : RowLines labels s (number + 1) runs) (place : ℕ) (it : Run)
        → slice_get (run ∷ runs) place ≡ Some it
        → (l : List ℕ) × IsRowAtPlace labels s number place it l × Contains (line ∷ others.lines) l
    by_place line is others zero it at =
        let here : number ≡ number + 0 = omega arith in
        let same = some_is run it at in
        (line, subst (λ r. IsRowAtPlace labels s number 0 r line) same (subst (λ n. IsLine line (row labels s n run)) here is), itself line others.lines)
    by_place line is others (suc place) it at =
        let h = others.rows place it at in
        let behind : (number + 1) + place ≡ number + suc place = omega arith in
        (h.0, subst (λ n. IsLine h.0 (row labels s n it)) behind h.1, Contains-append_right (line ∷ []) others.lines h.0 h.2)

    by_line : (first : List ℕ) → IsLine first (row labels s number run) → (others : RowLines labels s (number + 1) runs) (line : List ℕ)
        → Contains (first ∷ []) line ⊎ Contains others.lines line
        → (place : ℕ) × (it : Run) × (slice_get (run ∷ runs) place ≡ Some it) × IsRowAtPlace labels s number place it line
    by_line first is others line (inl one) =
        let here : number ≡ number + 0 = omega arith in
        (0, run, refl, subst (λ l. IsRowAtPlace labels s number 0 run l) (only first line one) (subst (λ n. IsLine first (row labels s n run)) here is))
    by_line first is others line (inr there) =
        let h = others.from line there in
        let behind : (number + 1) + h.0 ≡ number + suc h.0 = omega arith in
        (suc h.0, h.1, h.2, subst (λ n. IsLine line (row labels s n h.1)) behind h.3)
