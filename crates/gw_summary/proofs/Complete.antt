-- Where bytes are all rows of a study and were read, the pieces hold each run of it, and nothing else.
use Rattle.std.proofs.Common.{◌≡◌, ◌∙◌, ◌⊎◌, ◌++◌, ◌≤◌, ◌<◌, ◌+◌, ◌-◌, ℕ, zero, suc, List, [], ◌∷◌, length, Option, Some, None, IfSome, Vec, true}
use Rattle.std.proofs.Common.{false, refl, sym, ap, subst, arith, inl, inr}
use Rattle.std.specs.Prelude.{◌≢◌, is_some, nat_le, slice_get}
use Rattle.std.specs.Global.{Global}
use Rattle.std.specs.List.{All, Contains}
use Rattle.std.proofs.lemmas.Bool.{cases_lt, le-leb, lt-leb, true≢false}
use Rattle.std.proofs.lemmas.List.{append-nil}
use Rattle.std.proofs.lemmas.List.Elements.{All-head, Contains-append_cases}
use Rattle.std.proofs.lemmas.Option.{slice_get_within}
use Rattle.gw_figures.specs.Labels.{labels}
use Rattle.gw_figures.specs.declared.run.Run.{Run}
use Rattle.gw_rows.specs.Laws.{IsInWords}
use Rattle.gw_rows.specs.Reading.{IsReadable}
use Rattle.gw_rows.proofs.Apart.{rows_are_no_headers, rows_are_no_refusal_headers}
use Rattle.gw_rows.proofs.Telling.{rows_are_of_one_run}
use Rattle.gw_summary.specs.Adding.{IsWhole, Line, Place, has}
use Rattle.gw_summary.specs.Keeping.{IsTaken, kept_lines, lines_at, lines_of, waiting_lines}
use Rattle.gw_summary.specs.StudyRows.{StudyRuns, AreAllRows, HasHeaderOf, HoldsRows, IsHeld, IsOfStudy, IsReadableStudy, IsReadOf, IsRowAt}
use Rattle.gw_summary.specs.declared.pieces.Pieces.{Pieces}
use Rattle.gw_summary.specs.declared.point.PointRows.{PointRows}
use Rattle.gw_summary.specs.declared.rows.Rows.{Rows}
use Rattle.gw_summary.specs.declared.rows.Waiting.{Waiting}
use Rattle.gw_summary.specs.declared.study.Study.{Study}
use Rattle.gw_summary.proofs.Splitting.{all_lines}
use Rattle.gw_summary.proofs.Taking.{none_there, only}

-- the run at a place of a study has its row at its number
abbrev pub HasRowAt : StudyRuns → List Line → ℕ → Run → Type 0
HasRowAt s lines place run =
    (line : Vec ℕ Global) × (slice_get lines (s.first + place) ≡ Some (Some line)) × IsRowAt s place run line.items

-- each run of a study does
abbrev pub HasEachRow : StudyRuns → List Line → Type 0
HasEachRow s lines = (place : ℕ) (run : Run) → slice_get s.runs place ≡ Some run → HasRowAt s lines place run

-- pieces hold each run of a study, and nothing else
pub record IsComplete (s : StudyRuns) (pieces : Pieces) : Type 0 where
  pub rest : pieces.rest.items ≡ []
  pub waiting : pieces.rows.waiting.items ≡ []
  pub refused : pieces.rows.refused ≡ None
  pub header : HasHeaderOf s pieces.rows
  pub study : Study
  pub study_is : pieces.rows.study ≡ Some study
  pub of_study : IsOfStudy s study
  pub point : PointRows
  pub points_are : pieces.rows.points.items ≡ point ∷ []
  pub holds : HoldsRows s point
  pub many : length point.lines.items ≡ s.first + length s.runs
  pub whole : IsWhole point.lines.items s.first (s.first + length s.runs)
  pub few : s.first + length s.runs ≤ 512
  pub each : HasEachRow s point.lines.items

-- A ROW

in_words : (s : StudyRuns) (place : ℕ) (run : Run) → IsReadable s.labels s.source (s.first + place) run → IsInWords s.source (s.first + place)
in_words s place run readable =
    (omega (arith, readable.source.most), readable.source.from, readable.source.number)

-- the row of a run that was taken is kept
row_kept : (s : StudyRuns) (rows : Rows) (place : ℕ) (run : Run) (line : List ℕ) → IsReadable s.labels s.source (s.first + place) run
    → IsRowAt s place run line → rows.refused ≡ None → IsTaken rows line → Contains (kept_lines rows) line
row_kept s rows place run line readable is none (inl (inl header)) =
    absurd (rows_are_no_refusal_headers s.labels s.source (s.first + place) run (is ∙ sym header))
row_kept s rows place run line readable is none (inl (inr header)) =
    absurd (rows_are_no_headers s.labels (labels header.0) s.source (s.first + place) run (in_words s place run readable) (is ∙ sym header.1))
row_kept s rows place run line readable is none (inr (inl kept)) = kept
row_kept s rows place run line readable is none (inr (inr refusal)) = absurd (true≢false (sym refusal.1 ∙ ap is_some none))

-- a line stands at a number
abbrev pub StandsIn : List Line → List ℕ → Type 0
StandsIn lines line = (number : ℕ) × (there : Vec ℕ Global) × (slice_get lines number ≡ Some (Some there)) × (there.items ≡ line)

one_behind : (first : Line) (lines : List Line) (line : List ℕ) → StandsIn lines line → StandsIn (first ∷ lines) line
one_behind first lines line (number, there, at, is) = (suc number, there, at, is)

line_at : (lines : List Line) (line : List ℕ) → Contains (lines_at lines) line → StandsIn lines line
line_at [] line h = none_there line h
line_at (None ∷ lines) line h = one_behind None lines line (line_at lines line h)
line_at (Some first ∷ lines) line h = by_first (line_at lines line) (Contains-append_cases (first.items ∷ []) (lines_at lines) line h)
  where
    by_first : (Contains (lines_at lines) line → StandsIn lines line) → Contains (first.items ∷ []) line ⊎ Contains (lines_at lines) line
        → StandsIn (Some first ∷ lines) line
    by_first behind (inl one) = (zero, first, refl, only first.items line one)
    by_first behind (inr more) = one_behind (Some first) lines line (behind more)

-- the line of a run among those of a point stands at the run's number
row_at : (s : StudyRuns) (point : PointRows) (place : ℕ) (run : Run) (line : List ℕ) → IsReadableStudy s → HoldsRows s point
    → slice_get s.runs place ≡ Some run → IsRowAt s place run line → Contains (lines_at point.lines.items) line → HasRowAt s point.lines.items place run
row_at s point place run line readable holds at is there =
    let found = line_at point.lines.items line there in
    let row = holds.lines found.0 found.1 found.2 in
    let here : IsRowAt s row.place row.run line = subst (λ l. IsRowAt s row.place row.run l) found.3 row.row_is in
    let one = rows_are_of_one_run s.labels s.labels s.source s.source (s.first + place) (s.first + row.place) run row.run
    (in_words s place run (readable.each place run at)) (in_words s row.place row.run (readable.each row.place row.run row.at)) (is ∙ sym here) in
    let number : found.0 ≡ s.first + place = row.number_is ∙ sym one.4 in (
      found.1,
      subst (λ n. slice_get point.lines.items n ≡ Some (Some found.1)) number found.2,
      subst (λ l. IsRowAt s place run l) (sym found.3) is,
    )

-- THE POINT

run_at : (runs : List Run) (place : ℕ) → place < length runs → (run : Run) × (slice_get runs place ≡ Some run)
run_at [] place below = absurd (omega (arith, below))
run_at (run ∷ runs) zero below = (run, refl)
run_at (run ∷ runs) (suc place) below = run_at runs place (omega (arith, below))

-- points of which one has a line are one, where there aren't more
one_point : (points : List PointRows) (line : List ℕ) → length points ≤ 1 → Contains (lines_of points) line → (point : PointRows) × (points ≡ point ∷ [])
one_point [] line few there = none_there line there
one_point (point ∷ []) line few there = (point, refl)
one_point (point ∷ other ∷ points) line few there = absurd (omega (arith, few))

study_of : (s : StudyRuns) (o : Option Study) → IfSome o (IsOfStudy s) → is_some o ≡ true → (study : Study) × (o ≡ Some study) × IsOfStudy s study
study_of s None of some = absurd cc
study_of s (Some study) of some = (study, refl, of)

-- no line stands before the first run's
none_before : (s : StudyRuns) (point : PointRows) (number : ℕ) (there : Place) → HoldsRows s point → number < s.first
    → slice_get point.lines.items number ≡ there → has there ≡ false
none_before s point number None holds before is = refl
none_before s point number (Some None) holds before is = refl
none_before s point number (Some (Some line)) holds before is =
    let row = holds.lines number line is in
    absurd (omega (arith, before, row.number_is))

-- there are as many places as numbers up to the last run's
all_places : (s : StudyRuns) (point : PointRows) → 0 < length s.runs → HoldsRows s point → HasEachRow s point.lines.items
    → length point.lines.items ≡ s.first + length s.runs
all_places s point some holds each =
    let last : length s.runs - 1 < length s.runs = omega (arith, some) in
    let run = run_at s.runs (length s.runs - 1) last in
    let row = each (length s.runs - 1) run.0 run.1 in
    let within = slice_get_within point.lines.items (s.first + (length s.runs - 1)) (Some row.0) row.1 in
    omega (arith, some, within, holds.few)

-- just the runs of a study have lines
all_whole : (s : StudyRuns) (point : PointRows) → HoldsRows s point → HasEachRow s point.lines.items
    → IsWhole point.lines.items s.first (s.first + length s.runs)
all_whole s point holds each = record {
  few = holds.few;
  each = λ number below. by_first number below (cases_lt number s.first);
}
  where
    by_first : (number : ℕ) → number < s.first + length s.runs → (number < s.first) ⊎ (s.first ≤ number)
        → has (slice_get point.lines.items number) ≡ nat_le s.first number
    by_first number below (inl before) =
        none_before s point number (slice_get point.lines.items number) holds before refl ∙ sym (lt-leb s.first number before)
    by_first number below (inr behind) =
        let within : number - s.first < length s.runs = omega (arith, below, behind) in
        let run = run_at s.runs (number - s.first) within in
        let row = each (number - s.first) run.0 run.1 in
        let same : s.first + (number - s.first) ≡ number = omega (arith, behind) in
        ap has (subst (λ n. slice_get point.lines.items n ≡ Some (Some row.0)) same row.1) ∙ sym (le-leb s.first number behind)

-- ALL ROWS

-- rows that hold nothing but lines of a study took the header and the row of each run
record TakesAll (s : StudyRuns) (rows : Rows) : Type 0 where
  pub held : IsHeld s rows
  pub begun : rows.header.items ≢ []
  pub each : (place : ℕ) (run : Run) → slice_get s.runs place ≡ Some run → (line : List ℕ) × IsRowAt s place run line × IsTaken rows line

takes_all : (s : StudyRuns) (bytes : List ℕ) (pieces : Pieces) → AreAllRows s bytes → IsReadOf s bytes pieces
    → TakesAll s pieces.rows × (pieces.rest.items ≡ [])
takes_all s bytes pieces all was =
    let same = all_lines bytes pieces.rest.items was.read.lines all.those.lines was.read.split all.those.split in
    let among = λ (line : List ℕ) (h : Contains all.those.lines line). subst (λ ls. Contains ls line) same.0 h in (
      record {
        held = was.held;
        begun = was.header all.header.0 (among all.header.0 all.header.2) all.header.1;
        each = λ place run at.
            let line = all.runs place run at in
            (line.0, line.1, was.read.each line.0 (among line.0 line.2));
      },
      same.1,
    )

header_of : (s : StudyRuns) (rows : Rows) → rows.header.items ≢ [] → (rows.header.items ≡ []) ⊎ HasHeaderOf s rows → HasHeaderOf s rows
header_of s rows some (inl none) = absurd (some none)
header_of s rows some (inr header) = header

none_waits : (rows : Rows) → rows.header.items ≢ [] → (rows.header.items ≡ []) ⊎ (rows.waiting.items ≡ []) → rows.waiting.items ≡ []
none_waits rows some (inl none) = absurd (some none)
none_waits rows some (inr waits) = waits

has_study : (rows : Rows) (point : PointRows) → rows.points.items ≡ point ∷ [] → (rows.points.items ≡ []) ⊎ (is_some rows.study ≡ true)
    → is_some rows.study ≡ true
has_study rows point are (inl none) = absurd (cc (are, none))
has_study rows point are (inr some) = some

-- a run's line is one of the points
line_kept : (s : StudyRuns) (rows : Rows) (place : ℕ) (run : Run) → IsReadableStudy s → (took : TakesAll s rows) → (at : slice_get s.runs place ≡ Some run)
    → Contains (lines_of rows.points.items) (took.each place run at).0
line_kept s rows place run readable took at =
    let line = took.each place run at in
    let kept = row_kept s rows place run line.0 (readable.each place run at) line.1 took.held.holds.refused line.2 in
    let waits = none_waits rows took.begun took.held.settled.waits in
    let same : kept_lines rows ≡ lines_of rows.points.items =
    ap (λ (ws : List Waiting). lines_of rows.points.items ++ waiting_lines ws) waits ∙ append-nil (lines_of rows.points.items) in
    subst (λ ls. Contains ls line.0) same kept

each_row : (s : StudyRuns) (rows : Rows) (point : PointRows) → IsReadableStudy s → TakesAll s rows → rows.points.items ≡ point ∷ [] → HoldsRows s point
    → HasEachRow s point.lines.items
each_row s rows point readable took are holds place run at =
    let line = took.each place run at in
    let kept = line_kept s rows place run readable took at in
    let there = subst (λ (ps : List PointRows). Contains (lines_of ps) line.0) are kept in
    let here = subst (λ ls. Contains ls line.0) (append-nil (lines_at point.lines.items)) there in
    row_at s point place run line.0 readable holds at line.1 here

pub all_kept : (s : StudyRuns) (bytes : List ℕ) (pieces : Pieces) → IsReadableStudy s → AreAllRows s bytes → IsReadOf s bytes pieces
    → IsComplete s pieces
all_kept s bytes pieces readable all was =
    let rows = pieces.rows in
    let both = takes_all s bytes pieces all was in
    let took = both.0 in
    let first = run_at s.runs 0 readable.some in
    let line = line_kept s rows 0 first.0 readable took first.1 in
    let one = one_point rows.points.items (took.each 0 first.0 first.1).0 took.held.holds.one line in
    let point = one.0 in
    let holds = All-head (HoldsRows s) point [] (subst (λ (ps : List PointRows). All (HoldsRows s) ps) one.1 took.held.holds.points) in
    let study = study_of s rows.study took.held.holds.study (has_study rows point one.1 took.held.settled.begun) in
    let each = each_row s rows point readable took one.1 holds in
    let last : length s.runs - 1 < length s.runs = omega (arith, readable.some) in
    let run = run_at s.runs (length s.runs - 1) last in
    let number = (readable.each (length s.runs - 1) run.0 run.1).source.number in
    record {
      rest = both.1;
      waiting = none_waits rows took.begun took.held.settled.waits;
      refused = took.held.holds.refused;
      header = header_of s rows took.begun took.held.holds.header;
      study = study.0;
      study_is = study.1;
      of_study = study.2;
      point = point;
      points_are = one.1;
      holds = holds;
      many = all_places s point readable.some holds each;
      whole = all_whole s point holds each;
      few = omega (arith, number, readable.some);
      each = each;
    }
