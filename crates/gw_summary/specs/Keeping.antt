-- Which of the lines that were read are kept, and what becomes of the others.
use Rattle.std.specs.Prelude.{◌≡◌, ◌⊎◌, ℕ, List, [], ◌∷◌, ◌++◌, map, Option, None, Some, Vec, true, is_some}
use Rattle.std.specs.Global.{Global}
use Rattle.std.specs.List.{All, Contains, flat_map}
use Rattle.gw_figures.specs.declared.figure.Figure.{Figure}
use Rattle.gw_rows.specs.Reading.{IsHeaderOf, IsLine, IsWithoutFeed}
use Rattle.gw_rows.specs.Refusals.{refusal_header, refusal_row}
use Rattle.gw_summary.specs.declared.pieces.Pieces.{Pieces}
use Rattle.gw_summary.specs.declared.point.Adding.{Adding}
use Rattle.gw_summary.specs.declared.point.Adding.TheVariants.{New, Again, Unlike}
use Rattle.gw_summary.specs.declared.point.PointRows.{PointRows}
use Rattle.gw_summary.specs.declared.rows.Rows.{Rows}
use Rattle.gw_summary.specs.declared.rows.Waiting.{Waiting}

-- LINES THAT ARE KEPT

-- those at the places of a point's runs
abbrev pub lines_at : List (Option (Vec ℕ Global)) → List (List ℕ)
lines_at [] = []
lines_at (None ∷ places) = lines_at places
lines_at (Some line ∷ places) = line.items ∷ lines_at places

-- those of points
abbrev pub lines_of : List PointRows → List (List ℕ)
lines_of points = flat_map (λ p. lines_at p.lines.items) points

-- those that wait for a header
abbrev pub waiting_lines : List Waiting → List (List ℕ)
waiting_lines waiting = map (λ w. w.line.items) waiting

-- all of them
abbrev pub kept_lines : Rows → List (List ℕ)
kept_lines rows = lines_of rows.points.items ++ waiting_lines rows.waiting.items

-- a line is one more, somewhere between the others
abbrev pub OneMore : List ℕ → List (List ℕ) → List (List ℕ) → Type 0
OneMore line old new = (before : List (List ℕ)) × (after : List (List ℕ)) × (old ≡ before ++ after) × (new ≡ before ++ line ∷ after)

-- what a line of a point does to those that are there
abbrev pub AddsLine : Adding → List ℕ → List (List ℕ) → List (List ℕ) → Type 0
AddsLine New line old new = OneMore line old new
AddsLine Again line old new = Contains old line × (new ≡ old)
AddsLine Unlike line old new = new ≡ old

-- the same by the points before and after it
abbrev pub AddsLineTo : Adding → List ℕ → PointRows → PointRows → Type 0
AddsLineTo adding line old new = AddsLine adding line (lines_at old.lines.items) (lines_at new.lines.items)

-- WHAT BECOMES OF A LINE

-- a line names fields: those of a refusal, or those of runs with their figures
abbrev pub IsHeader : List ℕ → Type 0
IsHeader line = IsLine line refusal_header ⊎ ((figures : List Figure) × IsHeaderOf line figures)

-- a line tells a refusal
abbrev pub IsRefusal : List ℕ → Type 0
IsRefusal line = (model : List ℕ) × (why : List ℕ) × IsLine line (refusal_row model why)

-- a line is a header, or it is kept, or it tells a refusal, and rows have one
abbrev pub IsTaken : Rows → List ℕ → Type 0
IsTaken rows line = IsHeader line ⊎ Contains (kept_lines rows) line ⊎ (IsRefusal line × (is_some rows.refused ≡ true))

-- lines are taken: no other line is kept than before and these, and nothing that was taken is lost
pub record Takes (lines : List (List ℕ)) (old new : Rows) : Type 0 where
  pub from : (line : List ℕ) → Contains (kept_lines new) line → Contains (kept_lines old) line ⊎ Contains lines line
  pub stay : (line : List ℕ) → IsTaken old line → IsTaken new line
  pub each : (line : List ℕ) → Contains lines line → IsTaken new line

-- nothing of lines and refusals changes
abbrev pub HaveSame : Rows → Rows → Type 0
HaveSame old new = (kept_lines new ≡ kept_lines old) × (new.refused ≡ old.refused)

-- OF BYTES THAT WERE READ

-- bytes are lines, each with its line feed, and then the beginning of one more
pub record AreLines (bytes : List ℕ) (lines : List (List ℕ)) (rest : List ℕ) : Type 0 where
  pub whole : bytes ≡ flat_map (λ l. l ++ 10 ∷ []) lines ++ rest
  pub each : All IsWithoutFeed lines
  pub last : IsWithoutFeed rest

-- bytes were read: each line that is kept is one of them, and each of their lines is taken
pub record IsRead (bytes : List ℕ) (pieces : Pieces) : Type 0 where
  pub lines : List (List ℕ)
  pub split : AreLines bytes lines pieces.rest.items
  pub from : (line : List ℕ) → Contains (kept_lines pieces.rows) line → Contains lines line
  pub each : (line : List ℕ) → Contains lines line → IsTaken pieces.rows line

-- bytes behind others that were read are read too
abbrev pub ReadsBytes : List ℕ → Pieces → Pieces → Type 0
ReadsBytes bytes old new = (before : List ℕ) → IsRead before old → IsRead (before ++ bytes) new

-- the lines of points are just those of bytes that aren't headers
pub record AreRowsOf (bytes : List ℕ) (points : List PointRows) : Type 0 where
  pub lines : List (List ℕ)
  pub split : AreLines bytes lines []
  pub from : (line : List ℕ) → Contains (lines_of points) line → Contains lines line
  pub each : (line : List ℕ) → Contains lines line → IsHeader line ⊎ Contains (lines_of points) line
