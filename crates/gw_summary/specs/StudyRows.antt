-- The rows of all runs of one study of a model as it is: which lines they are, and which rows hold nothing else.
use Rattle.std.specs.Prelude.{◌≡◌, ◌≢◌, ◌⊎◌, ◌≤◌, ◌<◌, ◌+◌, ℕ, List, [], length, slice_get, Some, None, Vec, IfSome, true, is_some}
use Rattle.std.specs.Prelude.{Result, Ok, Err, OnOk, ◌++◌}
use Rattle.std.specs.Global.{Global}
use Rattle.std.specs.List.{All, Contains}
use Rattle.gw_figures.specs.Labels.{Label, labels}
use Rattle.gw_figures.specs.declared.run.Run.{Run}
use Rattle.gw_rows.specs.Names.{header}
use Rattle.gw_rows.specs.Reading.{IsByName, IsLine, IsPlain, IsReadable}
use Rattle.gw_rows.specs.Rows.{Source, row, source_of}
use Rattle.gw_summary.specs.Keeping.{AreLines, IsRead}
use Rattle.gw_summary.specs.declared.fault.NoRow.{NoRow}
use Rattle.gw_summary.specs.declared.fault.NoRow.TheVariants.{Fault, Memory}
use Rattle.gw_summary.specs.declared.pieces.Pieces.{Pieces}
use Rattle.gw_summary.specs.declared.point.PointRows.{PointRows}
use Rattle.gw_summary.specs.declared.rows.Rows.{Rows}
use Rattle.gw_summary.specs.declared.study.Study.{Study}

-- OF A STUDY

-- runs of a study: the figures, of what they are some, the number of the first, and the runs in order
pub record StudyRuns : Type 0 where
  pub labels : List Label
  pub source : Source
  pub first : ℕ
  pub runs : List Run

-- a text is the row of the run at a place of a study, without its line feed
abbrev pub IsRowAt : StudyRuns → ℕ → Run → List ℕ → Type 0
IsRowAt s place run line = IsLine line (row s.labels s.source (s.first + place) run)

-- a line is the row of the run of this number
pub record IsRowOfRun (s : StudyRuns) (number : ℕ) (line : List ℕ) : Type 0 where
  pub place : ℕ
  pub run : Run
  pub at : slice_get s.runs place ≡ Some run
  pub number_is : number ≡ s.first + place
  pub row_is : IsRowAt s place run line

-- a line is the row of a run
abbrev pub IsSomeRow : StudyRuns → List ℕ → Type 0
IsSomeRow s line = (number : ℕ) × IsRowOfRun s number line

-- a line is the one before rows
abbrev pub IsHeaderIn : StudyRuns → List ℕ → Type 0
IsHeaderIn s line = IsLine line (header s.labels)

-- a line is the one before rows, or a row
abbrev pub IsLineIn : StudyRuns → List ℕ → Type 0
IsLineIn s line = IsHeaderIn s line ⊎ IsSomeRow s line

-- the rows of a study can be read: its figures are those of their names and need no quotes, the model is as it is, no row says how
-- many there are, each run can be read, and no line is above 2^24 bytes
pub record IsReadableStudy (s : StudyRuns) : Type 0 where
  pub by_name : All IsByName s.labels
  pub plain : All (λ l. IsPlain l.name) s.labels
  pub point : s.source.point ≡ []
  pub rows : s.source.rows ≡ 0
  pub some : 0 < length s.runs
  pub each : (place : ℕ) (run : Run) → slice_get s.runs place ≡ Some run → IsReadable s.labels s.source (s.first + place) run
  pub short : (line : List ℕ) → IsLineIn s line → length line ≤ 16777216

-- bytes are lines of a study, in any order and however often each
pub record AreLinesIn (s : StudyRuns) (bytes : List ℕ) : Type 0 where
  pub lines : List (List ℕ)
  pub split : AreLines bytes lines []
  pub each : All (IsLineIn s) lines

-- the run at a place has a line among these
abbrev pub HasLine : StudyRuns → List (List ℕ) → ℕ → Run → Type 0
HasLine s lines place run = (line : List ℕ) × IsRowAt s place run line × Contains lines line

-- bytes are the rows of all runs of a study, in any order and however often, with the line before them somewhere
pub record AreAllRows (s : StudyRuns) (bytes : List ℕ) : Type 0 where
  pub those : AreLinesIn s bytes
  pub header : (line : List ℕ) × IsHeaderIn s line × Contains those.lines line
  pub runs : (place : ℕ) (run : Run) → slice_get s.runs place ≡ Some run → HasLine s those.lines place run

-- bytes are the beginning of such lines
abbrev pub IsFrontIn : StudyRuns → List ℕ → Type 0
IsFrontIn s bytes = (rest : List ℕ) × AreLinesIn s (bytes ++ rest)

-- ROWS THAT HOLD NOTHING ELSE

-- the header that was read is the one of a study, and its figures are those
pub record HasHeaderOf (s : StudyRuns) (rows : Rows) : Type 0 where
  pub text : IsHeaderIn s rows.header.items
  pub figures : labels rows.figures.items ≡ s.labels

-- what rows have in common is a study's
pub record IsOfStudy (s : StudyRuns) (study : Study) : Type 0 where
  pub source : source_of study.origin ≡ s.source
  pub names : study.names.items ≡ []

-- the lines of a point are rows of a study, each at its number, and there is no place behind the last run
pub record HoldsRows (s : StudyRuns) (point : PointRows) : Type 0 where
  pub name : point.name.items ≡ []
  pub lines : (number : ℕ) (line : Vec ℕ Global) → slice_get point.lines.items number ≡ Some (Some line) → IsRowOfRun s number line.items
  pub few : length point.lines.items ≤ s.first + length s.runs

-- rows hold nothing but lines of a study
pub record HoldsOnly (s : StudyRuns) (rows : Rows) : Type 0 where
  pub header : (rows.header.items ≡ []) ⊎ HasHeaderOf s rows
  pub waiting : All (λ w. IsSomeRow s w.line.items) rows.waiting.items
  pub study : IfSome rows.study (IsOfStudy s)
  pub refused : rows.refused ≡ None
  pub points : All (HoldsRows s) rows.points.items
  pub one : length rows.points.items ≤ 1

-- no line waits for a header that is there, and there is no point without a study
pub record IsSettled (rows : Rows) : Type 0 where
  pub waits : (rows.header.items ≡ []) ⊎ (rows.waiting.items ≡ [])
  pub begun : (rows.points.items ≡ []) ⊎ (is_some rows.study ≡ true)

-- both
pub record IsHeld (s : StudyRuns) (rows : Rows) : Type 0 where
  pub holds : HoldsOnly s rows
  pub settled : IsSettled rows

-- what rows are once a line of a study was taken: the header stays, and is there where the line is one
pub record HoldsMore (s : StudyRuns) (line : List ℕ) (old new : Rows) : Type 0 where
  pub held : IsHeld s new
  pub header : IsHeaderIn s line → new.header.items ≢ []
  pub stays : old.header.items ≢ [] → new.header.items ≢ []

-- memory ran out, and no line is refused
abbrev pub IsWant : NoRow → Type 0
IsWant Memory = Unit {0}
IsWant (Fault number why) = ⊥

-- no line is refused
abbrev pub IsNoFault : {X : Type 0} → Result X NoRow → Type 0
IsNoFault (Ok x) = Unit {0}
IsNoFault (Err none) = IsWant none

-- a line of a study isn't refused, and rows that hold nothing else hold it too
abbrev pub TakesLineOf : {X : Type 0} → StudyRuns → List ℕ → Result X NoRow → Rows → Rows → Type 0
TakesLineOf s line result old new =
    IsReadableStudy s → IsLineIn s line → IsHeld s old → IsNoFault result × OnOk result (HoldsMore s line old new)

-- OF BYTES THAT WERE READ

-- bytes were read into pieces whose rows hold nothing but lines of a study, and its header if it was among them
pub record IsReadOf (s : StudyRuns) (bytes : List ℕ) (pieces : Pieces) : Type 0 where
  pub read : IsRead bytes pieces
  pub held : IsHeld s pieces.rows
  pub header : (line : List ℕ) → Contains read.lines line → IsHeaderIn s line → pieces.rows.header.items ≢ []

-- bytes behind others that go on lines of a study aren't refused, and are read
abbrev pub ReadsOn : {X : Type 0} → StudyRuns → List ℕ → Result X NoRow → Pieces → Pieces → Type 0
ReadsOn s piece result old new =
    (before : List ℕ) → IsReadableStudy s → IsFrontIn s (before ++ piece) → IsReadOf s before old
    → IsNoFault result × OnOk result (IsReadOf s (before ++ piece) new)
