-- What becomes of rows that hold nothing but lines of one study, in each step by which they take one more.
use Rattle.std.specs.Prelude.{◌≡◌, ◌≢◌, ◌⊎◌, ◌≤◌, ◌+◌, max, ℕ, List, [], length, slice_get, Option, Some, None, Vec, Bool, true, false, is_some, IfSome}
use Rattle.std.specs.Prelude.{Result, Ok, Err, IfOk}
use Rattle.std.specs.Global.{Global}
use Rattle.std.specs.List.{All, insert}
use Rattle.std.specs.Str.{bytes_eq}
use Rattle.gw_figures.specs.declared.figure.Figure.{Figure}
use Rattle.gw_rows.specs.Rows.{source_of}
use Rattle.gw_rows.specs.declared.origin.Origin.{Origin}
use Rattle.gw_rows.specs.declared.row.Row.{Row}
use Rattle.gw_summary.specs.Adding.{Line}
use Rattle.gw_summary.specs.StudyRows.{StudyRuns, HasHeaderOf, HoldsMore, HoldsOnly, HoldsRows, IsHeaderIn, IsHeld, IsLineIn, IsOfStudy}
use Rattle.gw_summary.specs.StudyRows.{IsReadableStudy, IsRowOfRun, IsSomeRow}
use Rattle.gw_summary.specs.declared.fault.RowFault.{RowFault}
use Rattle.gw_summary.specs.declared.parameters.Numbers.{Numbers}
use Rattle.gw_summary.specs.declared.point.Adding.{Adding}
use Rattle.gw_summary.specs.declared.point.Adding.TheVariants.{Unlike}
use Rattle.gw_summary.specs.declared.point.PointRows.{PointRows}
use Rattle.gw_summary.specs.declared.rows.Rows.{Rows}
use Rattle.gw_summary.specs.declared.rows.Waiting.{Waiting}
use Rattle.gw_summary.specs.declared.rows.Wrong.{Wrong}
use Rattle.gw_summary.specs.declared.rows.Wrong.TheVariants.{Fault, Memory}

-- nothing is refused, and this holds of the answer where memory didn't run out
abbrev pub Succeeds : {X : Type 0} → Result X Wrong → (X → Type 0) → Type 0
Succeeds (Ok x) P = P x
Succeeds (Err Memory) P = Unit {0}
Succeeds (Err (Fault why)) P = ⊥

-- OF A POINT

-- each line among these has its place among those
abbrev pub HasNoOtherLines : List Line → List Line → Type 0
HasNoOtherLines lines others =
    (number : ℕ) (line : Vec ℕ Global) → slice_get lines number ≡ Some (Some line)
    → slice_get others number ≡ Some (Some line)

-- each line among these has its place among those, or it is this one at its place
abbrev pub HasNoOthersBut : ℕ → List ℕ → List Line → List Line → Type 0
HasNoOthersBut place one lines others =
    (number : ℕ) (line : Vec ℕ Global) → slice_get lines number ≡ Some (Some line)
    → (slice_get others number ≡ Some (Some line)) ⊎ ((number ≡ place) × (line.items ≡ one))

-- a line of a point is put at the place of its run, and nothing else changes
pub record PutsLine (number : ℕ) (line : List ℕ) (old new : PointRows) : Type 0 where
  pub name : new.name ≡ old.name
  pub lines : HasNoOthersBut number line new.lines.items old.lines.items
  pub few : length new.lines.items ≤ max (length old.lines.items) (number + 1)

-- where a point has nothing but lines of a study, it holds one more, and no line is unlike another
abbrev pub HoldsAlso : {E : Type 0} → StudyRuns → ℕ → List ℕ → Result Adding E → PointRows → PointRows → Type 0
HoldsAlso s number line result old new =
    IfOk result (λ adding. HoldsRows s old → IsRowOfRun s number line → (adding ≢ Unlike) × HoldsRows s new)

-- OF POINTS

-- a point is there, and is called so
abbrev pub is_called : Option PointRows → List ℕ → Bool
is_called None name = false
is_called (Some point) name = bytes_eq point.name.items name

-- no point is called so
abbrev pub HasNoPointOf : List ℕ → List PointRows → Type 0
HasNoPointOf name points = (place : ℕ) → is_called (slice_get points place) name ≡ false

-- a point is put between others, without a line, and nothing else changes
pub record AddsPoint (name : List ℕ) (old new : Rows) : Type 0 where
  pub place : ℕ
  pub within : place ≤ length old.points.items
  pub point : PointRows
  pub points : new.points.items ≡ insert old.points.items place point
  pub name_is : point.name.items ≡ name
  pub none : point.lines.items ≡ []
  pub others : new ≡ record old { points = new.points }

-- rows hold nothing but lines of a study, and nothing but their points may have changed
pub record HoldsAtPoints (s : StudyRuns) (old new : Rows) : Type 0 where
  pub holds : HoldsOnly s new
  pub others : new ≡ record old { points = new.points }

-- there is a place for the rows of a study
abbrev pub PlacesRowsOf : StudyRuns → List ℕ → Result ℕ Wrong → Rows → Rows → Type 0
PlacesRowsOf s name result old new = name ≡ [] → HoldsOnly s old → Succeeds result (λ place. HoldsAtPoints s old new)

-- rows hold nothing but lines of a study, and nothing but their points, where the last row belongs, and how many there are may have changed
pub record HoldsAtPlace (s : StudyRuns) (old new : Rows) : Type 0 where
  pub holds : HoldsOnly s new
  pub others : new ≡ record old { points = new.points; place = new.place; count = new.count }

-- the row of a run of a study is added at a point
abbrev pub AddsRowOf : StudyRuns → ℕ → List ℕ → Result (Unit {0}) Wrong → Rows → Rows → Type 0
AddsRowOf s number line result old new =
    IsRowOfRun s number line → HoldsOnly s old → Succeeds result (λ done. HoldsAtPlace s old new)

-- OF WHAT ROWS HAVE IN COMMON

-- there are no names
abbrev pub HasNoNames : Option Numbers → Type 0
HasNoNames None = ⊥
HasNoNames (Some numbers) = numbers.names.items ≡ []

-- of what a row is one, with these names, is a study's
pub record IsFrom (s : StudyRuns) (origin : Origin) (names : List (Vec ℕ Global)) : Type 0 where
  pub source : source_of origin ≡ s.source
  pub names_are : names ≡ []

-- a row of a study isn't refused for what it is one of
abbrev pub HasNoFault : StudyRuns → Origin → List (Vec ℕ Global) → Rows → Option RowFault → Type 0
HasNoFault s origin names rows fault = IsFrom s origin names → HoldsOnly s rows → fault ≡ None

-- a study's rows have it in common
abbrev pub BeginsStudy : StudyRuns → Origin → List (Vec ℕ Global) → Rows → Rows → Type 0
BeginsStudy s origin names old new =
    IsFrom s origin names → IfSome old.study (IsOfStudy s)
    → IfSome new.study (IsOfStudy s) × (is_some new.study ≡ true)

-- OF A LINE

-- a row is that of a run of a study, as its line has it
pub record IsRowOfStudy (s : StudyRuns) (row : Row) (line : List ℕ) : Type 0 where
  pub source : source_of row.origin ≡ s.source
  pub line_is : IsRowOfRun s row.number line

-- rows hold nothing but lines of a study, and have the header that they had
pub record StaysHeld (s : StudyRuns) (old new : Rows) : Type 0 where
  pub held : IsHeld s new
  pub header : new.header.items ≡ old.header.items

-- the row of a run of a study isn't refused
abbrev pub TakesReadRow : StudyRuns → Row → List ℕ → Result (Unit {0}) Wrong → Rows → Rows → Type 0
TakesReadRow s row line result old new =
    IsReadableStudy s → IsRowOfStudy s row line → IsHeld s old → Succeeds result (λ done. StaysHeld s old new)

-- the same where these are the names of its point, and there are none
abbrev pub TakesNamedRow : StudyRuns → List (Vec ℕ Global) → Row → List ℕ → Result (Unit {0}) Wrong → Rows → Rows → Type 0
TakesNamedRow s names row line result old new = names ≡ [] → TakesReadRow s row line result old new

-- a line that is a row of a study isn't refused
abbrev pub TakesRowOf : StudyRuns → List ℕ → Result (Unit {0}) Wrong → Rows → Rows → Type 0
TakesRowOf s line result old new =
    IsReadableStudy s → IsSomeRow s line → IsHeld s old → Succeeds result (λ done. StaysHeld s old new)

-- the same where there is no header yet
abbrev pub TakesRowBefore : StudyRuns → List ℕ → Result (Unit {0}) Wrong → Rows → Rows → Type 0
TakesRowBefore s line result old new = old.header.items ≡ [] → TakesRowOf s line result old new

-- the same behind a header
abbrev pub TakesRowBehind : StudyRuns → List ℕ → Result (Unit {0}) Wrong → Rows → Rows → Type 0
TakesRowBehind s line result old new = old.header.items ≢ [] → TakesRowOf s line result old new

-- lines wait, each a row of a study, and its header is there
pub record AwaitRows (s : StudyRuns) (waiting : List Waiting) (rows : Rows) : Type 0 where
  pub rows_are : All (λ w. IsSomeRow s w.line.items) waiting
  pub header : rows.header.items ≢ []
  pub held : IsHeld s rows

-- lines that waited, each a row of a study, aren't refused once its header is there
abbrev pub TakesRowsOf : StudyRuns → List Waiting → Result (Unit {0}) Wrong → Rows → Rows → Type 0
TakesRowsOf s waiting result old new =
    IsReadableStudy s → AwaitRows s waiting old → Succeeds result (λ done. StaysHeld s old new)

-- there is no point without a study
abbrev pub IsBegun : Rows → Type 0
IsBegun rows = (rows.points.items ≡ []) ⊎ (is_some rows.study ≡ true)

-- all lines that waited aren't refused once the header is there
abbrev pub TakesAllRowsOf : StudyRuns → Result (Unit {0}) Wrong → Rows → Rows → Type 0
TakesAllRowsOf s result old new =
    IsReadableStudy s → HoldsOnly s old → IsBegun old → old.header.items ≢ []
    → Succeeds result (λ done. StaysHeld s old new)

-- OF THE HEADER

-- a line is the header, with these figures, and nothing else changes
pub record BeginsWith (line : List ℕ) (figures : Vec Figure Global) (old new : Rows) : Type 0 where
  pub header : new.header.items ≡ line
  pub others : new ≡ record old { header = new.header; figures = figures }

-- a line is the header of a study, rows have it, and nothing else changes
pub record IsHeaderRead (s : StudyRuns) (line : List ℕ) (old new : Rows) : Type 0 where
  pub line_is : IsHeaderIn s line
  pub has : HasHeaderOf s new
  pub others : new ≡ record old { header = new.header; figures = new.figures }

-- a line is a row of a study, and nothing changes
pub record IsRowLeft (s : StudyRuns) (line : List ℕ) (old new : Rows) : Type 0 where
  pub line_is : IsSomeRow s line
  pub same : new ≡ old

-- what is found to be the header is it, and what isn't is a row
abbrev pub IsHeaderFound : StudyRuns → List ℕ → Bool → Rows → Rows → Type 0
IsHeaderFound s line true old new = IsHeaderRead s line old new
IsHeaderFound s line false old new = IsRowLeft s line old new

-- the header of a study is found, and nothing is refused
abbrev pub FindsHeaderOf : StudyRuns → List ℕ → Result Bool Wrong → Rows → Rows → Type 0
FindsHeaderOf s line result old new =
    IsReadableStudy s → IsLineIn s line → IsHeld s old → Succeeds result (λ found. IsHeaderFound s line found old new)

-- a line of a study isn't refused
abbrev pub AddsLineOf : StudyRuns → List ℕ → Result (Unit {0}) Wrong → Rows → Rows → Type 0
AddsLineOf s line result old new =
    IsReadableStudy s → IsLineIn s line → IsHeld s old → Succeeds result (λ done. HoldsMore s line old new)
