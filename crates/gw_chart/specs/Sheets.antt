-- What was in each entity at each moment, as records (RFC 4180).
use Rattle.std.specs.Prelude.{ℕ, ◌+◌, ℤ, List, [], ◌∷◌, ◌++◌, length, slice_get, codes, if◌then◌else◌}
use Rattle.std.specs.Ordering.{int_eq}
use Rattle.std.specs.Option.{option_map_or}
use Rattle.std.specs.Fmt.{signed_decimal}
use Rattle.gw_object.specs.declared.parts.Entity.{Entity}
use Rattle.gw_chart.specs.declared.plot.Plot.{Plot}
use Rattle.gw_chart.specs.declared.plot.Plot.TheVariants.{Owned, Units, Waiting, Set, Members, Value, Classes}
use Rattle.gw_chart.specs.declared.bands.Band.{Band}
use Rattle.gw_chart.specs.declared.window.Window.{Window}
use Rattle.gw_drawing.specs.Text.{upto}
use Rattle.gw_records.specs.Records.{record_text}
use Rattle.gw_chart.specs.Windows.{moment}
use Rattle.gw_chart.specs.Plots.{line_of}
use Rattle.gw_chart.specs.Bands.{band_of}
use Rattle.gw_chart.specs.Lines.{content, band_at}

-- a record of these fields
abbrev pub csv_row : List ℕ → List ℕ → List ℕ → List ℕ → List ℕ → List ℕ → List ℕ
csv_row time kind name value least greatest =
    record_text (time ∷ kind ∷ name ∷ value ∷ least ∷ greatest ∷ [])

-- the word of the kind of entity of which this is drawn
abbrev pub word_of : Plot → List ℕ
word_of Owned = codes "FACILITY"
word_of Units = codes "STORAGE"
word_of Waiting = codes "QUEUE"
word_of Set = codes "SWITCH"
word_of Members = codes "CHAIN"
word_of Value = codes "SAVEVALUE"
word_of Classes = codes "TABLE"

-- what the fields are
unfoldable pub heading : List ℕ
heading = csv_row (codes "time") (codes "kind") (codes "entity") (codes "value") (codes "least") (codes "greatest")

-- the record of what was in an entity of a name at a time, and the least and the greatest since the time before
unfoldable pub line : Plot → List ℕ → ℤ → ℤ → Band → List ℕ
line plot name time value band =
    csv_row (signed_decimal time) (word_of plot) name (signed_decimal value) (signed_decimal band.least) (signed_decimal band.greatest)

-- the record of the first moment, before which there is none
abbrev pub first_line : Plot → List ℕ → Window → List (List ℤ) → ℕ → List ℕ
first_line plot name w rows e = line plot name (moment w 0) (content rows e 0) (band_of (content rows e 0))

-- the record of the moment behind this one, if its clock is another
abbrev pub line_behind : Plot → List ℕ → Window → List (List ℤ) → List (List Band) → ℕ → ℕ → List ℕ
line_behind plot name w rows bands e i =
    if int_eq (moment w (i + 1)) (moment w i) then []
    else line plot name (moment w (i + 1)) (content rows e (i + 1)) (band_at bands e i)

-- the records of all moments, of which those at one clock have one
unfoldable pub lines_behind : Plot → List ℕ → Window → List (List ℤ) → List (List Band) → ℕ → List ℕ
lines_behind plot name w rows bands e = upto (line_behind plot name w rows bands e) 499

abbrev pub lines_of : Plot → List ℕ → Window → List (List ℤ) → List (List Band) → ℕ → List ℕ
lines_of plot name w rows bands e = first_line plot name w rows e ++ lines_behind plot name w rows bands e

-- the records of an entity, if a line of it is drawn
abbrev pub entity_lines : Window → List (List ℤ) → List (List Band) → ℕ → Entity → List ℕ
entity_lines w rows bands e entity = option_map_or (λ plot. lines_of plot entity.name w rows bands e) (line_of entity.kind) []

-- the same for the entity of a number
abbrev pub lines_at : Window → List (List ℤ) → List (List Band) → List Entity → ℕ → List ℕ
lines_at w rows bands entities e = option_map_or (entity_lines w rows bands e) (slice_get entities e) []

-- those of all entities, one after the other
unfoldable pub all_lines : Window → List (List ℤ) → List (List Band) → List Entity → List ℕ
all_lines w rows bands entities = upto (lines_at w rows bands entities) (length entities)

-- what the fields are, and the records of all entities
abbrev pub sheet : Window → List Entity → List (List ℤ) → List (List Band) → List ℕ
sheet w entities rows bands = heading ++ all_lines w rows bands entities
