-- How many numbers a run may have drawn from a stream, and whether it may have come to where the next begins.
-- A run is told here by its steps and its values.
use Rattle.std.specs.Prelude.{◌≡◌, ◌<◌, length, ℕ, zero, suc, ◌+◌, ◌-◌, ◌*◌, ◌/◌, ◌%◌, ◌^◌, min, nat_lt, ◌==◌, List, [], ◌∷◌, ◌++◌, codes, Bool}
use Rattle.std.specs.Prelude.{false, ℤ, pos, negsuc, Option, None, Some, is_none, option_to_list, if◌then◌else◌}
use Rattle.std.specs.Fmt.{decimal}
use Rattle.gw_object.specs.declared.blocks.Block.{Block}
use Rattle.gw_object.specs.declared.blocks.Block.TheVariants.{Test}
use Rattle.gw_object.specs.declared.parts.Entity.{Entity}
use Rattle.gw_object.specs.declared.parts.Parts.{Parts}
use Rattle.gw_notes.specs.Drawing.{draws_at, draws}
use Rattle.gw_report.specs.Figures.{block_at}
use Rattle.gw_figures.specs.Trends.{value_at}
use Rattle.gw_figures.specs.Values.{values_of}
use Rattle.gw_figures.specs.Windows.{Span, rise}
use Rattle.gw_figures.specs.declared.run.Overdraw.{Overdraw}
use Rattle.gw_figures.specs.declared.run.Run.{Run}

-- WHAT A RUN MAY HAVE DRAWN

-- how many a value in millionths is, at most 2^64; none where there is no value
abbrev pub units_in : Option ℤ → ℕ
units_in None = 0
units_in (Some (pos n)) = min (2 ^ 64) (n / 1000000)
units_in (Some (negsuc n)) = 0

-- the values of a run's figures
abbrev pub Values : Type 0
Values = List (Option ℤ)

-- the steps that a run made before its window, of whose figures STEPS is the second
abbrev pub steps_before : ℕ → Values → ℕ
steps_before steps values = steps - units_in (value_at 1 values)

-- how often the block at a place, from 0, was entered at most: in the window, and in each step before it.
-- Its ENTRIES stand behind the four figures of the end and the two of each block before it
abbrev pub entries_at : ℕ → Values → ℕ → ℕ
entries_at steps values place = units_in (value_at (4 + 2 * place) values) + steps_before steps values

-- a block that draws may refuse who comes: a TEST that names no other block
abbrev pub may_refuse : Block → Bool
may_refuse (Test test) = is_none test.otherwise
may_refuse block = false

-- how often a block was met at most: where it may refuse, twice in each step, by who tries two ways; else as
-- often as it was entered, and once more for the first arrival
abbrev pub meetings : ℕ → Values → ℕ → Block → ℕ
meetings steps values place block =
    if may_refuse block then 2 * steps else entries_at steps values place + 1

-- at most so many numbers were drawn from a stream at these blocks, the first of which is at this place
unfoldable pub drawn_from : List Entity → ℕ → ℕ → Values → ℕ → List Block → ℕ
drawn_from es stream steps values place [] = 0
drawn_from es stream steps values place (block ∷ rest) =
    draws_at es stream block * meetings steps values place block
    + drawn_from es stream steps values (place + 1) rest

-- and at all blocks of a model; 2^127 - 1 stands for more
abbrev pub drawn_in : Parts → ℕ → ℕ → Values → ℕ
drawn_in parts stream steps values =
    min (2 ^ 127 - 1) (drawn_from parts.entities stream steps values 0 parts.blocks)

-- WHERE THE NEXT STREAM BEGINS

-- the stream so many behind another, where the first of the next run is behind the sixteenth
abbrev pub behind : ℕ → ℕ → ℕ
behind stream d = (stream + d - 1) % 16 + 1

-- how many streams behind one the next is from which the model draws, from so many on, where so many are left
-- to be looked at
unfoldable pub next_drawn : Parts → ℕ → ℕ → ℕ → ℕ
next_drawn parts stream d zero = d
next_drawn parts stream d (suc left) =
    if draws parts (behind stream d) then d else next_drawn parts stream (d + 1) left

-- so many numbers are a stream's own: those before the next from which the model draws; the same stream of the
-- next run is the sixteenth
abbrev pub own_numbers : Parts → ℕ → ℕ
own_numbers parts stream = 131071 * next_drawn parts stream 1 15

-- WHAT IS KEPT OF A RUN

-- a run may have drawn more from a stream than are its own
abbrev pub is_overdrawn : Parts → ℕ → Values → ℕ → Bool
is_overdrawn parts steps values stream = nat_lt (own_numbers parts stream) (drawn_in parts stream steps values)

-- what is kept of that
abbrev pub overdraw : Parts → ℕ → Values → ℕ → Option Overdraw
overdraw parts steps values stream =
    if is_overdrawn parts steps values stream then
    Some (record { stream = stream; most = drawn_in parts stream steps values; own = own_numbers parts stream })
    else None

-- the same of so many streams, the first of which has this number
unfoldable pub overdraws_from : Parts → ℕ → Values → ℕ → ℕ → List Overdraw
overdraws_from parts steps values stream zero = []
overdraws_from parts steps values stream (suc left) =
    option_to_list (overdraw parts steps values stream)
    ++ overdraws_from parts steps values (stream + 1) left

-- of all streams
abbrev pub overdraws_of : Parts → ℕ → Values → List Overdraw
overdraws_of parts steps values = overdraws_from parts steps values 1 16

-- WHAT IS TOLD OF RUNS

-- the greater of two overdraws, of which the first may not be there
abbrev pub greater : Option Overdraw → Overdraw → Overdraw
greater None other = other
greater (Some most) other = if nat_lt most.most other.most then other else most

-- the greatest overdraw of a stream among these, where this is the greatest so far
unfoldable pub greatest : ℕ → Option Overdraw → List Overdraw → Option Overdraw
greatest stream most [] = most
greatest stream most (o ∷ rest) =
    greatest stream (if o.stream == stream then Some (greater most o) else most) rest

-- and among those of runs
unfoldable pub greatest_of : ℕ → Option Overdraw → List Run → Option Overdraw
greatest_of stream most [] = most
greatest_of stream most (run ∷ rest) = greatest_of stream (greatest stream most run.overdraws.items) rest

-- a stream that may have come to where the next begins
unfoldable pub stream_text : Overdraw → List ℕ
stream_text o =
    codes "STREAMS RN" ++ decimal o.stream ++ codes " may draw " ++ decimal o.most
    ++ codes " numbers in a run, and has " ++ decimal o.own
    ++ codes " of its own: then come those of another stream, so try shorter runs\n"

-- the same, where it may have
abbrev pub stream_line : Option Overdraw → List ℕ
stream_line None = []
stream_line (Some o) = stream_text o

-- the lines of so many streams, the first of which has this number
unfoldable pub streams_from : List Run → ℕ → ℕ → List ℕ
streams_from runs stream zero = []
streams_from runs stream (suc left) =
    stream_line (greatest_of stream None runs) ++ streams_from runs (stream + 1) left

-- those of all streams
abbrev pub streams_text : List Run → List ℕ
streams_text runs = streams_from runs 1 16

-- LAWS

-- the ENTRIES of a block stand where they are looked for: what the entries of the block rise by in the window
abbrev pub EntriesStandBehind : Type 0
EntriesStandBehind =
    (parts : Parts) (w : Span) (place : ℕ) → place < length parts.blocks
    → value_at (4 + 2 * place) (values_of parts w)
    ≡ rise (block_at place w.start).entries (block_at place w.end).entries
