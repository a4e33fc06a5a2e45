-- What is in an entity over time, as a line.
use Rattle.std.specs.Prelude.{ℕ, ◌+◌, ◌-◌, ◌*◌, ◌/◌, max, nat_le, Bool, ◌||◌, ℤ, pos, int_lt, List, [], ◌++◌, slice_index_or, codes, if◌then◌else◌}
use Rattle.std.specs.Prelude.{Option, Some, None}
use Rattle.std.specs.Int.{div_ceil, int_min, int_max}
use Rattle.std.specs.Ordering.{int_eq}
use Rattle.std.specs.Option.{unwrap_or}
use Rattle.gw_object.specs.declared.parts.Kind.{Kind}
use Rattle.gw_object.specs.declared.parts.Kind.TheVariants as kinds
use Rattle.gw_chart.specs.declared.plot.Plot.{Plot}
use Rattle.gw_chart.specs.declared.window.Window.{Window}
use Rattle.gw_drawing.specs.Numbers.{part_of_length, greatest, round_step}
use Rattle.gw_drawing.specs.Text.{upto, tenths, label}
use Rattle.gw_chart.specs.declared.bands.Band.{Band}
use Rattle.gw_chart.specs.Contents.{value_in}
use Rattle.gw_chart.specs.Bands.{band_in}
use Rattle.gw_chart.specs.Windows.{span_of}
use Rattle.gw_chart.specs.Axes.{Levels, levels_to, height_above, depth_below, deepest}
use Rattle.gw_chart.specs.Plots.{floor_of, height_at, colour_of, upright_line, title, unit, below, levels}

-- THE CLOCK AXIS

-- how far it is along a clock axis of this length to a clock, which lies so far behind its begin
abbrev pub place_of : ℕ → ℕ → ℕ
place_of span part = 800 + part_of_length 6200 part span

-- the upright line at a clock on an axis that begins at another and reaches so far, and the clock
abbrev pub clock : Plot → ℕ → ℕ → ℕ → List ℕ
clock plot from span time =
    upright_line (place_of span (time - from)) plot
    ++ label (place_of span (time - from)) (floor_of plot + 160) (codes " text-anchor=\"middle\"") time

-- those at the multiples of a step, from the first of these numbers on
abbrev pub clock_at : Plot → ℕ → ℕ → ℕ → ℕ → List ℕ
clock_at plot from span step i = clock plot from span (step * (div_ceil from step + i))

-- those at all multiples within
abbrev pub clocks_by : Plot → ℕ → ℕ → ℕ → List ℕ
clocks_by plot from span step = upto (clock_at plot from span step) ((from + span) / step + 1 - div_ceil from step)

-- those at each round step within
unfoldable pub clocks : Plot → ℕ → ℕ → List ℕ
clocks plot from span = clocks_by plot from span (round_step span)

-- THE LINE

-- what was in an entity, by its number, at a moment, by its number: each row has what was in all entities at one moment
abbrev pub content : List (List ℤ) → ℕ → ℕ → ℤ
content rows e i = value_in (slice_index_or rows i []) e

-- a point: a moment, by its number, and a place
abbrev pub point : ℕ → ℕ → List ℕ
point i y = codes " " ++ tenths (800 + part_of_length 6200 i 499) ++ codes "," ++ tenths y

-- a line that goes up or down at a moment
abbrev pub turn : ℕ → ℕ → ℕ → List ℕ
turn i from to = point i from ++ point i to

-- the points at a moment after the first: none where nothing changed since the one before
abbrev pub points_after : Plot → Levels → List (List ℤ) → ℕ → ℕ → List ℕ
points_after plot axis rows e i =
    if int_eq (content rows e (i + 1)) (content rows e i) then []
    else turn (i + 1) (height_at plot axis (content rows e i)) (height_at plot axis (content rows e (i + 1)))

-- the point at a moment, where its content is shown
abbrev pub point_at : Plot → Levels → List (List ℤ) → ℕ → ℕ → List ℕ
point_at plot axis rows e i = point i (height_at plot axis (content rows e i))

-- the points at all moments after the first
unfoldable pub turns : Plot → Levels → List (List ℤ) → ℕ → List ℕ
turns plot axis rows e = upto (points_after plot axis rows e) 499

-- the points of a line over the moments: it goes level from moment to moment, and up or down where the content changes
unfoldable pub points : Plot → Levels → List (List ℤ) → ℕ → List ℕ
points plot axis rows e = point_at plot axis rows e 0 ++ turns plot axis rows e ++ point_at plot axis rows e 499

-- the line
unfoldable pub line : Plot → Levels → List (List ℤ) → ℕ → List ℕ
line plot axis rows e =
    codes "<polyline fill=\"none\" stroke=\"" ++ colour_of plot ++ codes "\" points=\"" ++ points plot axis rows e ++ codes "\"/>\n"

-- WHAT CAME AND WENT

-- the least and the greatest of what was in an entity, by its number, from a moment, by its number, to the next
abbrev pub band_at : List (List Band) → ℕ → ℕ → Band
band_at bands e i = band_in (slice_index_or bands i []) e

-- these lie beyond what was in the entity at both moments
abbrev pub is_beyond : Band → ℤ → ℤ → Bool
is_beyond band before behind = int_lt band.least (int_min before behind) || int_lt (int_max before behind) band.greatest

-- an upright stroke from the greatest to the least, halfway between two moments
abbrev pub stroke : Plot → Levels → Band → ℕ → List ℕ
stroke plot axis band i =
    codes "M" ++ tenths (800 + part_of_length 6200 (2 * i + 1) 998) ++ codes " " ++ tenths (height_at plot axis band.greatest)
    ++ codes "V" ++ tenths (height_at plot axis band.least)

-- the stroke between a moment and the next, where there is one
abbrev pub stroke_at : Plot → Levels → List (List ℤ) → List (List Band) → ℕ → ℕ → List ℕ
stroke_at plot axis rows bands e i =
    if is_beyond (band_at bands e i) (content rows e i) (content rows e (i + 1)) then stroke plot axis (band_at bands e i) i else []

-- those between all moments
unfoldable pub strokes : Plot → Levels → List (List ℤ) → List (List Band) → ℕ → List ℕ
strokes plot axis rows bands e = upto (stroke_at plot axis rows bands e) 499

-- what came and went
unfoldable pub peaks : Plot → Levels → List (List ℤ) → List (List Band) → ℕ → List ℕ
peaks plot axis rows bands e =
    codes "<path stroke-opacity=\"0.4\" stroke=\"" ++ colour_of plot ++ codes "\" d=\"" ++ strokes plot axis rows bands e ++ codes "\"/>\n"

-- how much fits an entity, if it has a capacity
abbrev pub limit_of : Kind → Option ℕ
limit_of (kinds.Storage capacity) = Some capacity
limit_of kind = None

-- the same, where it is at most ten times as much as is in it
abbrev pub limit_within : ℕ → Option ℕ → Option ℕ
limit_within most None = None
limit_within most (Some limit) = if nat_le limit (10 * most) then Some limit else None

-- how far the upright axis reaches above 0: to the greatest content, and to the limit
abbrev pub reach_to : ℕ → Option ℕ → ℕ
reach_to most limit = max most (unwrap_or limit 1)

-- the place of a limit, from the upper end of the panel
abbrev pub limit_at : Plot → Levels → ℕ → ℕ
limit_at plot axis most = height_at plot axis (pos most)

-- a dashed level line at a limit
unfoldable pub limit : Plot → Levels → ℕ → List ℕ
limit plot axis most = codes "<path d=\"M80.0 " ++ tenths (limit_at plot axis most) ++ codes "H700.0\" stroke=\"#333\" stroke-dasharray=\"4 4\"/>\n"

-- the same, if there is a limit
abbrev pub limit_line : Plot → Levels → Option ℕ → List ℕ
limit_line plot axis None = []
limit_line plot axis (Some most) = limit plot axis most

-- the axes of a panel, and its limit
unfoldable pub axes : Levels → Plot → List ℕ → Window → Option ℕ → List ℕ
axes axis plot name w limit =
    title name plot ++ unit plot ++ levels plot axis ++ clocks plot w.from (span_of w) ++ below plot (codes "clock units") ++ limit_line plot axis limit

-- a panel with these, its line, and what came and went
abbrev pub panel_with : Levels → Plot → List ℕ → List (List ℤ) → List (List Band) → ℕ → Window → Option ℕ → List ℕ
panel_with axis plot name rows bands e w limit = axes axis plot name w limit ++ peaks plot axis rows bands e ++ line plot axis rows e

-- how far what was in an entity lay above 0 at most from a moment to the next, and how far below
abbrev pub height_in : List (List Band) → ℕ → ℕ → ℕ
height_in bands e i = height_above (band_at bands e i).greatest

abbrev pub depth_in : List (List Band) → ℕ → ℕ → ℕ
depth_in bands e i = depth_below (band_at bands e i).least

-- the greatest height, and at least 1
abbrev pub most_in : List (List Band) → ℕ → ℕ
most_in bands e = greatest (height_in bands e) 499

-- the greatest depth
abbrev pub least_in : List (List Band) → ℕ → ℕ
least_in bands e = deepest (depth_in bands e) 499

-- a panel with an axis that reaches as far as is needed, where so much is in the entity at most, and so far below 0 at least
abbrev pub panel_to : ℕ → ℕ → Option ℕ → Plot → List ℕ → List (List ℤ) → List (List Band) → ℕ → Window → List ℕ
panel_to most depth limit plot name rows bands e w = panel_with (levels_to (reach_to most limit) depth) plot name rows bands e w limit

-- the panel of an entity, whose name and number are given, over a window, with its limit if it has one
unfoldable pub line_panel : Plot → List ℕ → List (List ℤ) → List (List Band) → ℕ → Window → Option ℕ → List ℕ
line_panel plot name rows bands e w limit =
    panel_to (most_in bands e) (least_in bands e) (limit_within (most_in bands e) limit) plot name rows bands e w
