-- The document: a panel for each facility, storage, queue, switch, user chain and table, one below the other.
use Rattle.std.specs.Prelude.{ℕ, ◌+◌, nat_lt, List, [], ◌∷◌, ◌++◌, length, slice_get, ℤ, codes, unsigned_abs, if◌then◌else◌}
use Rattle.std.specs.Option.{option_map_or}
use Rattle.std.specs.Fmt.{decimal}
use Rattle.gw_object.specs.declared.parts.Entity.{Entity}
use Rattle.gw_object.specs.declared.parts.Kind.{Kind}
use Rattle.gw_object.specs.declared.parts.Kind.TheVariants as kinds
use Rattle.gw_object.specs.declared.parts.Parts.{Parts}
use Rattle.gw_step.specs.State.{State}
use Rattle.gw_step.specs.Changes.{table}
use Rattle.gw_chart.specs.declared.plot.Plot.{Plot}
use Rattle.gw_chart.specs.declared.bands.Band.{Band}
use Rattle.gw_chart.specs.declared.window.Window.{Window}
use Rattle.gw_drawing.specs.Numbers.{total}
use Rattle.gw_drawing.specs.Text.{upto, tenths, xml_text, digits_in_threes}
use Rattle.gw_chart.specs.Plots.{plot_of, panel_height}
use Rattle.gw_chart.specs.Lines.{line_panel, limit_of}
use Rattle.gw_chart.specs.Bars.{bar_panel}

-- how high the panel of an entity is; 0 where it has none
abbrev pub height_of : Entity → ℕ
height_of entity = option_map_or panel_height (plot_of entity.kind) 0

-- the same for the entity of a number
abbrev pub height_at : List Entity → ℕ → ℕ
height_at entities e = option_map_or height_of (slice_get entities e) 0

-- where the panel of the entity of a number begins; the first begins at 50
abbrev pub begins_at : List Entity → ℕ → ℕ
begins_at entities e = 500 + total (height_at entities) e

-- what the title begins with: the name of what is run, if it has one
abbrev pub subject : List ℕ → List ℕ
subject [] = codes "One run"
subject (byte ∷ name) = xml_text (byte ∷ name) ++ codes ": one run"

-- when the run ends, where more of it lies behind the window
abbrev pub end_note : ℕ → ℕ → List ℕ
end_note to end = if nat_lt to end then codes " of " ++ digits_in_threes (decimal end) else []

-- the title: what is run, from where to where it is shown, and when it ends
unfoldable pub heading : List ℕ → Window → ℕ → List ℕ
heading name w end =
    subject name ++ codes ", from clock " ++ digits_in_threes (decimal w.from) ++ codes " to " ++ digits_in_threes (decimal w.to) ++ end_note w.to end

-- what the document begins with: its height, and its title
unfoldable pub head : ℕ → List ℕ → Window → ℕ → List ℕ
head height name w end =
    codes "<?xml version=\"1.0\" encoding=\"UTF-8\"?>\n<svg xmlns=\"http://www.w3.org/2000/svg\" version=\"1.1\" width=\"760\" height=\""
    ++ tenths height ++ codes "\" viewBox=\"-40 0 760 " ++ tenths height
    ++ codes "\" font-family=\"sans-serif\" font-size=\"12\">\n<rect x=\"-40\" width=\"100%\" height=\"100%\" fill=\"#fff\"/>\n<text x=\"80\" y=\"28\" font-size=\"15\" font-weight=\"bold\">"
    ++ heading name w end
    ++ codes "</text>\n<text x=\"80\" y=\"45\" fill=\"#555\">Lines: what stood at 500 moments, evenly apart. Pale strokes: the least and the greatest between.</text>\n"

-- what is drawn in the panel of the entity of a number, which is of this kind and has this name
abbrev pub panel_drawing : Kind → Plot → List ℕ → Window → State → List (List ℤ) → List (List Band) → ℕ → List ℕ
panel_drawing (kinds.Table operands) plot name w s rows bands e = bar_panel plot name operands (table e s).classes
panel_drawing kind plot name w s rows bands e = line_panel plot name rows bands e w (limit_of kind)

-- a panel, which begins so far below the upper end of the document
abbrev pub panel_below : ℕ → List ℕ → List ℕ
panel_below y inside = codes "<g transform=\"translate(0," ++ tenths y ++ codes ")\">\n" ++ inside ++ codes "</g>\n"

-- the panel of an entity, if its kind has one
abbrev pub panel_of : Window → State → List (List ℤ) → List (List Band) → ℕ → ℕ → Entity → List ℕ
panel_of w s rows bands y e entity =
    option_map_or (λ plot. panel_below y (panel_drawing entity.kind plot entity.name w s rows bands e)) (plot_of entity.kind) []

-- the same for the entity of a number
abbrev pub panel_at : Window → State → List (List ℤ) → List (List Band) → List Entity → ℕ → List ℕ
panel_at w s rows bands entities e = option_map_or (panel_of w s rows bands (begins_at entities e) e) (slice_get entities e) []

-- the panels of all entities
unfoldable pub panels : Window → State → List (List ℤ) → List (List Band) → List Entity → List ℕ
panels w s rows bands entities = upto (panel_at w s rows bands entities) (length entities)

-- the document of a window of a run whose last state this is, by what was in each entity at each moment and from each to the next
unfoldable pub document : List ℕ → Window → Parts → State → List (List ℤ) → List (List Band) → List ℕ
document name w p s rows bands =
    head (begins_at p.entities (length p.entities)) name w (unsigned_abs s.clock) ++ panels w s rows bands p.entities ++ codes "</svg>\n"
