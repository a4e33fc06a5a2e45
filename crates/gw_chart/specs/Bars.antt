-- The classes of a table, as bars.
use Rattle.std.specs.Prelude.{Bool, ℕ, ◌+◌, ◌-◌, ◌/◌, ◌%◌, min, List, [], ◌++◌, length, slice_index, codes, nat_lt, ◌||◌, ◌&&◌}
use Rattle.std.specs.Prelude.{◌==◌, if◌then◌else◌}
use Rattle.gw_object.specs.declared.parts.Table.{Table}
use Rattle.gw_figures.specs.Values.{upper_limit}
use Rattle.gw_chart.specs.declared.plot.Plot.{Plot}
use Rattle.gw_drawing.specs.Numbers.{part_of_length, greatest}
use Rattle.gw_drawing.specs.Text.{upto, tenths, text_at, signed_grouped}
use Rattle.gw_chart.specs.Axes.{Levels, levels_to, reach_of}
use Rattle.gw_chart.specs.Plots.{floor_of, height_of, colour_of, title, unit, below, levels}

-- how high the bar of so many values is
abbrev pub bar_height : Plot → Levels → ℕ → ℕ
bar_height plot axis value = part_of_length (height_of plot) (min value (reach_of axis)) (reach_of axis)

-- where the bar of a class of so many lies, by its number and its height
abbrev pub bar_place : Plot → ℕ → ℕ → ℕ → List ℕ
bar_place plot classes i height =
    codes "<rect x=\"" ++ tenths (800 + part_of_length 6200 i classes + 6200 / classes / 10) ++ codes "\" y=\"" ++ tenths (floor_of plot - height)

-- how wide and how high it is, and its colour
abbrev pub bar_size : Plot → ℕ → ℕ → List ℕ
bar_size plot classes height =
    codes "\" width=\"" ++ tenths (6200 / classes - 6200 / classes / 5) ++ codes "\" height=\"" ++ tenths height
    ++ codes "\" fill=\"" ++ colour_of plot ++ codes "\"/>\n"

-- the bar of a class of so many, by its number, with so many values
abbrev pub bar : Plot → Levels → ℕ → ℕ → ℕ → List ℕ
bar plot axis classes i value =
    bar_place plot classes i (bar_height plot axis value) ++ bar_size plot classes (bar_height plot axis value)

-- the upper limit of a class of so many; the last has none
abbrev pub limit_text : Table → ℕ → ℕ → List ℕ
limit_text table classes i = if i + 1 == classes then codes "more" else signed_grouped (upper_limit table i)

-- the same, below its bar
abbrev pub limit : Plot → Table → ℕ → ℕ → List ℕ
limit plot table classes i =
    text_at (800 + part_of_length 6200 i classes + 6200 / classes / 2) (floor_of plot + 160) (codes " text-anchor=\"middle\"")
    ++ limit_text table classes i ++ codes "</text>\n"

-- there is room for it below one of so many bars, but for those near the last, and below the last
abbrev pub has_room : ℕ → ℕ → Bool
has_room classes i = ((i % (classes / 12 + 1) == 0) && nat_lt (i + classes / 12 + 1) classes) || (i + 1 == classes)

-- the same, where there is room for it
abbrev pub limit_if_room : Plot → Table → ℕ → ℕ → List ℕ
limit_if_room plot table classes i =
    if has_room classes i then limit plot table classes i else []

-- a class: its bar, and its upper limit
abbrev pub class : Plot → Levels → Table → List ℕ → ℕ → List ℕ
class plot axis table values i =
    bar plot axis (length values) i (slice_index values i) ++ limit_if_room plot table (length values) i

-- the classes, one after the other
unfoldable pub classes : Plot → Levels → Table → List ℕ → List ℕ
classes plot axis table values = upto (class plot axis table values) (length values)

-- a panel with its axes and its bars
abbrev pub panel_with : Levels → Plot → List ℕ → Table → List ℕ → List ℕ
panel_with axis plot name table values =
    title name plot ++ unit plot ++ levels plot axis ++ classes plot axis table values
    ++ below plot (codes "class, by its upper limit")

-- the panel of a table, whose name is given, with so many values in each class
unfoldable pub bar_panel : Plot → List ℕ → Table → List ℕ → List ℕ
bar_panel plot name table values = panel_with (levels_to (greatest (slice_index values) (length values)) 0) plot name table values
