-- The plot of an entity: its axes, and what stands beside them. Places are in tenths of pixels: the plot lies from 80
-- to 700 from the left, and from 32 downwards in its panel.
use Rattle.std.specs.Prelude.{ℕ, ◌+◌, ◌-◌, ◌/◌, List, ◌++◌, ℤ, pos, int_lt, unsigned_abs, min, codes, Option, Some, None, if◌then◌else◌}
use Rattle.gw_object.specs.declared.parts.Kind.{Kind}
use Rattle.gw_object.specs.declared.parts.Kind.TheVariants as kinds
use Rattle.gw_chart.specs.declared.plot.Plot.{Plot}
use Rattle.gw_chart.specs.declared.plot.Plot.TheVariants.{Owned, Units, Waiting, Set, Members, Value, Classes}
use Rattle.gw_drawing.specs.Numbers.{part_of_length}
use Rattle.gw_drawing.specs.Text.{upto, xml_text, tenths, text_at, level_line, signed_grouped}
use Rattle.gw_chart.specs.Axes.{Levels, reach_of, number_at}

-- the plot of a kind of entity, if it has one
abbrev pub plot_of : Kind → Option Plot
plot_of kinds.Facility = Some Owned
plot_of (kinds.Storage capacity) = Some Units
plot_of kinds.Queue = Some Waiting
plot_of (kinds.Switch set) = Some Set
plot_of kinds.Chain = Some Members
plot_of (kinds.Savevalue initial) = Some Value
plot_of (kinds.Table operands) = Some Classes
plot_of kind = None

-- the plot of a kind of which a line is drawn
abbrev pub line_of : Kind → Option Plot
line_of (kinds.Table operands) = None
line_of kind = plot_of kind

-- what it shows
abbrev pub shown_in : Plot → List ℕ
shown_in Owned = codes "facility, 1 where it is owned"
shown_in Units = codes "storage, units in it; its capacity is dashed"
shown_in Waiting = codes "queue, units that wait"
shown_in Set = codes "switch, 1 where it is set"
shown_in Members = codes "user chain, members"
shown_in Value = codes "savevalue, its value"
shown_in Classes = codes "table, values in each class over the whole run"

abbrev pub unit_of : Plot → List ℕ
unit_of Owned = codes "owned"
unit_of Units = codes "units"
unit_of Waiting = codes "waiting"
unit_of Set = codes "set"
unit_of Members = codes "members"
unit_of Value = codes ""
unit_of Classes = codes "values"

abbrev pub colour_of : Plot → List ℕ
colour_of Owned = codes "#4477aa"
colour_of Units = codes "#228833"
colour_of Waiting = codes "#cc5533"
colour_of Set = codes "#997700"
colour_of Members = codes "#117788"
colour_of Value = codes "#aa4466"
colour_of Classes = codes "#886699"

-- how high the plot is
abbrev pub height_of : Plot → ℕ
height_of Owned = 400
height_of Set = 400
height_of plot = 1000

-- how high its panel is, with the title above it and the numbers below it
abbrev pub panel_height : Plot → ℕ
panel_height plot = height_of plot + 800

-- where the plot ends, from the upper end of its panel
abbrev pub floor_of : Plot → ℕ
floor_of plot = 320 + height_of plot

-- TEXTS AND LINES

-- an upright line through the plot
abbrev pub upright_line : ℕ → Plot → List ℕ
upright_line x plot = codes "<path d=\"M" ++ tenths x ++ codes " 32.0V" ++ tenths (floor_of plot) ++ codes "\" stroke=\"#eee\"/>\n"

-- BESIDE THE PLOT

-- the name of an entity, in the colour of its plot, and what the plot shows
unfoldable pub title : List ℕ → Plot → List ℕ
title name plot =
    codes "<rect x=\"80\" y=\"12\" width=\"10\" height=\"10\" fill=\"" ++ colour_of plot
    ++ codes "\"/>\n<text x=\"96\" y=\"21\"><tspan font-weight=\"bold\">" ++ xml_text name
    ++ codes "</tspan><tspan fill=\"#555\">: " ++ shown_in plot ++ codes "</tspan></text>\n"

-- the unit of the upright axis
unfoldable pub unit : Plot → List ℕ
unit plot =
    codes "<text transform=\"translate(14," ++ tenths (320 + height_of plot / 2)
    ++ codes ") rotate(-90)\" text-anchor=\"middle\" fill=\"#555\">" ++ unit_of plot ++ codes "</text>\n"

-- what stands below the level axis
unfoldable pub below : Plot → List ℕ → List ℕ
below plot words = text_at 3900 (floor_of plot + 330) (codes " text-anchor=\"middle\" fill=\"#555\"") ++ words ++ codes "</text>\n"

-- THE UPRIGHT AXIS

-- the place of a step, from the upper end of the panel
abbrev pub level_at : Plot → Levels → ℕ → ℕ
level_at plot axis i = floor_of plot - part_of_length (height_of plot) i axis.count

-- the number of a step beside a place
unfoldable pub number_text : ℕ → Levels → ℕ → List ℕ
number_text y axis i = text_at 740 (y + 40) (codes " text-anchor=\"end\"") ++ signed_grouped (number_at axis i) ++ codes "</text>\n"

-- the level line at a step, and its number
abbrev pub level : Plot → Levels → ℕ → List ℕ
level plot axis i = level_line (level_at plot axis i) ++ number_text (level_at plot axis i) axis i

-- those at the steps below the end of the axis
unfoldable pub lower_levels : Plot → Levels → List ℕ
lower_levels plot axis = upto (level plot axis) axis.count

-- those at each step, from the lowest to the end of the axis
unfoldable pub levels : Plot → Levels → List ℕ
levels plot axis = lower_levels plot axis ++ level plot axis axis.count

-- how far from 0 a number is drawn; one that lies beyond the axis is drawn at most its whole reach from 0
abbrev pub length_of : Plot → Levels → ℤ → ℕ
length_of plot axis number = part_of_length (height_of plot) (min (unsigned_abs number) (reach_of axis)) (reach_of axis)

-- the place of a number, from the upper end of the panel
abbrev pub height_at : Plot → Levels → ℤ → ℕ
height_at plot axis number =
    if int_lt number (pos 0) then level_at plot axis axis.below + length_of plot axis number
    else level_at plot axis axis.below - length_of plot axis number
