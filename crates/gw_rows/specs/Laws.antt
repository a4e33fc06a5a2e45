-- Laws of rows.
use Rattle.std.specs.Prelude.{◌≡◌, ◌<◌, ◌^◌, ℕ, ◌+◌, List, ◌++◌, length, ℤ, Option}
use Rattle.std.specs.List.{All, AllZip}
use Rattle.hex.specs.Hex.{encode_lower}
use Rattle.sha2.specs.Sha256.{sha256}
use Rattle.gw_object.specs.Grammar.{HasSpelling}
use Rattle.gw_object.specs.declared.parts.Parts.{Parts}
use Rattle.gw_figures.specs.Labels.{Label, labels_of}
use Rattle.gw_figures.specs.Trends.{changes}
use Rattle.gw_figures.specs.declared.run.Run.{Run}
use Rattle.gw_rows.specs.Names.{header}
use Rattle.gw_rows.specs.Reading.{HasFigures, IsByName, IsPlain, IsRunInRange, MayChange, outcome_of}
use Rattle.gw_rows.specs.Refusals.{refusal_header, refusal_row}
use Rattle.gw_rows.specs.Rows.{Source, row, rows_from}

-- the rows of runs, and then those of the runs behind them, are the rows of all
abbrev pub RowsFollow : Type 0
RowsFollow =
    (labels : List Label) (s : Source) (number : ℕ) (runs more : List Run)
    → rows_from labels s number (runs ++ more)
    ≡ rows_from labels s number runs ++ rows_from labels s (number + length runs) more

-- a count and a window's beginning are below 2^64, and a run is below 512
abbrev pub IsInWords : Source → ℕ → Type 0
IsInWords s number = (s.count < 2 ^ 64) × (s.from < 2 ^ 64) × (number < 512)

-- two rows with one text are of one model, one point, one count, one window and one run
abbrev pub RowsAreOfOneRun : Type 0
RowsAreOfOneRun =
    (labels others : List Label) (s t : Source) (number other : ℕ) (run it : Run)
    → IsInWords s number → IsInWords t other
    → row labels s number run ≡ row others t other it
    → (s.model ≡ t.model) × (s.point ≡ t.point) × (s.count ≡ t.count) × (s.from ≡ t.from) × (number ≡ other)

-- two rows with one text are of one source and one run
abbrev pub RowsAreOfOneSource : Type 0
RowsAreOfOneSource =
    (labels others : List Label) (s t : Source) (number other : ℕ) (run it : Run)
    → IsInWords s number → IsInWords t other → s.rows < 2 ^ 64 → t.rows < 2 ^ 64
    → row labels s number run ≡ row others t other it → (s ≡ t) × (number ≡ other)

-- two rows of the same figures with one text tell the same of their runs, where numbers are in the ranges of their types
abbrev pub RowsTellTheirRuns : Type 0
RowsTellTheirRuns =
    (labels : List Label) (s t : Source) (number other : ℕ) (run it : Run)
    → HasFigures labels run → HasFigures labels it → IsRunInRange run → IsRunInRange it
    → row labels s number run ≡ row labels t other it → outcome_of run ≡ outcome_of it

-- two lines before rows with one text are of the same figures, where these are those of their names
abbrev pub HeadersTellTheirFigures : Type 0
HeadersTellTheirFigures =
    (labels others : List Label) → All IsByName labels → All IsByName others
    → header labels ≡ header others → labels ≡ others

-- no row is a line before rows
abbrev pub RowsAreNoHeaders : Type 0
RowsAreNoHeaders =
    (labels others : List Label) (s : Source) (number : ℕ) (run : Run)
    → IsInWords s number → ¬ (row labels s number run ≡ header others)

-- no row is that of a refusal
abbrev pub RowsAreNoRefusals : Type 0
RowsAreNoRefusals =
    (labels : List Label) (s : Source) (number : ℕ) (run : Run) (model why : List ℕ)
    → ¬ (row labels s number run ≡ refusal_row model why)

-- nor the line before it
abbrev pub RowsAreNoRefusalHeaders : Type 0
RowsAreNoRefusalHeaders =
    (labels : List Label) (s : Source) (number : ℕ) (run : Run) → ¬ (row labels s number run ≡ refusal_header)

-- figures change from the values of one window to those of another only where rows tell that
abbrev pub ChangesAreTold : Type 0
ChangesAreTold = (labels : List Label) (before after : List (Option ℤ)) → AllZip MayChange labels (changes labels before after)

-- each figure of a model that has a spelling is the one of its name, which needs no quotes
abbrev pub ModelsAreReadable : Type 0
ModelsAreReadable =
    (parts : Parts) → HasSpelling parts
    → All IsByName (labels_of parts) × All (λ l. IsPlain l.name) (labels_of parts)

-- the digest of a text needs no quotes
abbrev pub DigestsArePlain : Type 0
DigestsArePlain = (text : List ℕ) → IsPlain (encode_lower (sha256 text))
