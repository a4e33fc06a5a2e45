-- What is told of the reads of rows.
use Rattle.std.specs.Prelude.{◌≡◌, ℕ, List, [], ◌++◌, Option, Some, None, IfSome, Bool, true, false, Result, Ok, Err}
use Rattle.std.specs.Io.KnownBytes.{Consumes, IsAtEnd}
use Rattle.gw_summary.specs.Keeping.{IsRead}
use Rattle.gw_summary.specs.StudyRows.{StudyRuns, IsFrontIn, IsReadOf, IsReadableStudy, IsWant}
use Rattle.gw_summary.specs.declared.pieces.Pieces.{Pieces}
use Rattle.planner.specs.declared.rows.NoRows.{NoRows}
use Rattle.planner.specs.declared.rows.NoRows.TheVariants.{Row, Read}

-- a read is said to have failed where one did
abbrev pub TellsRows : {X : Type 0} → Result X NoRows → Bool → Type 0
TellsRows (Ok x) failed = failed ≡ false
TellsRows (Err (Row none)) failed = failed ≡ false
TellsRows (Err Read) failed = failed ≡ true

-- no line is refused
abbrev pub RefusesNoLine : {X : Type 0} → Result X NoRows → Type 0
RefusesNoLine (Ok x) = Unit {0}
RefusesNoLine (Err (Row none)) = IsWant none
RefusesNoLine (Err Read) = Unit {0}

-- bytes are read behind others as lines of a study, where they go on such lines
abbrev pub ReadsStudies : List ℕ → Pieces → Pieces → Type 0
ReadsStudies bytes old new =
    (s : StudyRuns) (before : List ℕ) → IsReadableStudy s → IsFrontIn s (before ++ bytes) → IsReadOf s before old
    → IsReadOf s (before ++ bytes) new

-- bytes came from a reader, none only at its end, and they are read into pieces behind those before
abbrev pub ReadsPiece : ℕ → Option (List ℕ) → Option (List ℕ) → Pieces → Pieces → Type 0
ReadsPiece count known left old new =
    (bytes : List ℕ) × Consumes known left bytes
    × ((before : List ℕ) → IsRead before old → IsRead (before ++ bytes) new) × (count ≡ 0 → IsAtEnd left)
    × ReadsStudies bytes old new

-- the bytes that stand on a reader go on lines of a study behind others
abbrev pub GoesOn : StudyRuns → List ℕ → Option (List ℕ) → Type 0
GoesOn s before None = ⊥
GoesOn s before (Some bytes) = IsFrontIn s (before ++ bytes)

-- where they do, and those before were read, no line is refused
abbrev pub RefusesNoStudy : {X : Type 0} → Result X NoRows → Option (List ℕ) → Pieces → Type 0
RefusesNoStudy result known old =
    (s : StudyRuns) (before : List ℕ) → IsReadableStudy s → GoesOn s before known → IsReadOf s before old → RefusesNoLine result

-- where they go on nothing, so that they are such lines themselves, no line is refused
abbrev pub RefusesNoRows : {X : Type 0} → Result X NoRows → Option (List ℕ) → Type 0
RefusesNoRows result known = (s : StudyRuns) → IsReadableStudy s → GoesOn s [] known → RefusesNoLine result

-- bytes were read as lines of each study of which they are such lines
abbrev pub AreReadAsStudies : List ℕ → Pieces → Type 0
AreReadAsStudies bytes pieces = (s : StudyRuns) → IsReadableStudy s → IsFrontIn s bytes → IsReadOf s bytes pieces

-- all bytes of a reader are read into pieces; where they aren't known, some bytes
abbrev pub ReadsAll : Option (List ℕ) → Pieces → Type 0
ReadsAll known pieces = (bytes : List ℕ) × IfSome known (λ xs. xs ≡ bytes) × IsRead bytes pieces × AreReadAsStudies bytes pieces
