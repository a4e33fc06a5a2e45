-- What the fields of rows are called.
use Rattle.std.specs.Prelude.{◌&&◌, ◌||◌, ◌==◌, ℕ, ◌-◌, nat_le, List, [], ◌∷◌, ◌++◌, length, take, drop}
use Rattle.std.specs.Prelude.{map, codes, Bool, not, if◌then◌else◌}
use Rattle.std.specs.List.{slice_split}
use Rattle.std.specs.Str.{bytes_eq}
use Rattle.csv.specs.Writing.{row_text, default_writer}
use Rattle.gw_figures.specs.Labels.{Label}

-- of which model a run is one, how many rows there are in all, of which point, with which count, and where its window begins
abbrev pub source_names : List (List ℕ)
source_names = codes "model" ∷ codes "rows" ∷ codes "point" ∷ codes "count" ∷ codes "from" ∷ []

-- which run it is, how it ended, after how many steps, and from which streams it may have drawn more numbers than are their own
abbrev pub end_names : List (List ℕ)
end_names = codes "run" ∷ codes "end" ∷ codes "steps" ∷ codes "streams" ∷ []

-- rows tell how a figure changes
abbrev pub has_trend : Label → Bool
has_trend label = label.average || label.content

-- what the change of an average or a content is called
abbrev pub trend_front : List ℕ
trend_front = codes "TREND "

abbrev pub trend_name : List ℕ → List ℕ
trend_name name = trend_front ++ name

-- what the changes of figures are called of which rows tell that
abbrev pub trend_of : Label → List (List ℕ)
trend_of label = if has_trend label then trend_name label.name ∷ [] else []

unfoldable pub trend_names : List Label → List (List ℕ)
trend_names [] = []
trend_names (label ∷ labels) = trend_of label ++ trend_names labels

-- the names of all fields
abbrev pub names : List Label → List (List ℕ)
names labels = source_names ++ end_names ++ map (λ l. l.name) labels ++ trend_names labels

-- the line before rows
unfoldable pub header : List Label → List ℕ
header labels = row_text default_writer (names labels)

-- a text begins so, or ends so
abbrev pub begins : List ℕ → List ℕ → Bool
begins front text = nat_le (length front) (length text) && bytes_eq (take (length front) text) front

abbrev pub ends : List ℕ → List ℕ → Bool
ends end text = nat_le (length end) (length text) && bytes_eq (drop (length text - length end) text) end

-- a figure is told only where all are asked for: one of a block, a switch or a user chain
abbrev pub is_detail : List ℕ → Bool
is_detail name = begins (codes "BLOCK ") name || begins (codes "SWITCH ") name || begins (codes "CHAIN ") name

-- a figure is an average: over time, over units or over values
abbrev pub is_average : List ℕ → Bool
is_average name = ends (codes " UTIL") name || ends (codes " TIME") name || ends (codes " AVG") name || ends (codes " MEAN") name

-- a figure is how many are there at a moment: in a queue or a storage, or waiting for a facility or a storage
abbrev pub is_content : List ℕ → Bool
is_content name = not (is_detail name) && (ends (codes " CONTENT") name || ends (codes " WAIT") name)

-- the figure of a name
abbrev pub label_of_name : List ℕ → Label
label_of_name name =
    record { name = name; main = not (is_detail name); average = is_average name; content = is_content name }

-- the figures of names, up to the first change
unfoldable pub labels_named : List (List ℕ) → List Label
labels_named [] = []
labels_named (name ∷ names) = if begins trend_front name then [] else label_of_name name ∷ labels_named names

-- the figures of the names of a line's parts between commas, behind those of the other fields
abbrev pub labels_in : List ℕ → List Label
labels_in line = labels_named (drop 9 (slice_split (λ b. b == 44) line))
