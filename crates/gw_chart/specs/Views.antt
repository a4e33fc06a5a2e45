-- What is drawn and written, by what the code has of it: samples, the curve or the series of an entity, and a run.
use Rattle.std.specs.Prelude.{ℕ, ℤ, List, Option}
use Rattle.gw_object.specs.declared.parts.Entity.{Entity}
use Rattle.gw_step.specs.Job.{Progress}
use Rattle.gw_chart.specs.declared.bands.Band.{Band}
use Rattle.gw_chart.specs.declared.line.Curve.{Curve}
use Rattle.gw_chart.specs.declared.plot.Plot.{Plot}
use Rattle.gw_chart.specs.declared.samples.Samples.{Samples}
use Rattle.gw_chart.specs.declared.sheet.Series.{Series}
use Rattle.gw_chart.specs.declared.window.Window.{Window}
use Rattle.gw_chart.specs.Axes.{Levels}
use Rattle.gw_chart.specs.Document as documents
use Rattle.gw_chart.specs.Lines as lines
use Rattle.gw_chart.specs.Sheets as sheets

-- what is drawn of a curve by what stood at each moment
abbrev pub of_curve : {X : Type 0} → (Plot → Levels → List (List ℤ) → ℕ → X) → Curve → X
of_curve draw c = draw c.plot c.axis c.seen.now.rows.items c.entity

-- and by what it was like in between, too
abbrev pub of_bands : {X : Type 0} → (Plot → Levels → List (List ℤ) → List (List Band) → ℕ → X) → Curve → X
of_bands draw c = draw c.plot c.axis c.seen.now.rows.items c.seen.now.bands.items c.entity

-- the panel of an entity, with these limits
abbrev pub panel_to : ℕ → ℕ → Option ℕ → Plot → List ℕ → Samples → ℕ → Window → List ℕ
panel_to most depth limit plot name seen e w =
    lines.panel_to most depth limit plot name seen.rows.items seen.bands.items e w

abbrev pub line_panel : Plot → List ℕ → Samples → ℕ → Window → Option ℕ → List ℕ
line_panel plot name seen e w limit = lines.line_panel plot name seen.rows.items seen.bands.items e w limit

-- what is drawn in the panel of an entity
abbrev pub drawing_of : Plot → Window → Progress → Samples → ℕ → Entity → List ℕ
drawing_of plot w p seen e entity =
    documents.panel_drawing entity.kind plot entity.name w p.state seen.rows.items seen.bands.items e

-- the panel of an entity, of that of a number, and of all
abbrev pub panel_of : Window → Progress → Samples → ℕ → ℕ → Entity → List ℕ
panel_of w p seen y e entity = documents.panel_of w p.state seen.rows.items seen.bands.items y e entity

abbrev pub panel_at : Window → Progress → Samples → ℕ → List ℕ
panel_at w p seen e = documents.panel_at w p.state seen.rows.items seen.bands.items p.job.parts.entities e

abbrev pub panels : Window → Progress → Samples → List ℕ
panels w p seen = documents.panels w p.state seen.rows.items seen.bands.items p.job.parts.entities

-- the document
abbrev pub document : List ℕ → Window → Progress → Samples → List ℕ
document name w p seen = documents.document name w p.job.parts p.state seen.rows.items seen.bands.items

-- the record of the first moment of a series
abbrev pub first_line : Series → List ℕ
first_line s = sheets.first_line s.plot s.name.now s.window s.seen.now.rows.items s.entity

-- what is written of the other moments of a series
abbrev pub of_series : {X : Type 0} → (Plot → List ℕ → Window → List (List ℤ) → List (List Band) → ℕ → X) → Series → X
of_series tell s = tell s.plot s.name.now s.window s.seen.now.rows.items s.seen.now.bands.items s.entity

-- the records of an entity, of that of a number, and of all
abbrev pub entity_lines : Window → Samples → ℕ → Entity → List ℕ
entity_lines w seen e entity = sheets.entity_lines w seen.rows.items seen.bands.items e entity

abbrev pub lines_at : Window → Samples → List Entity → ℕ → List ℕ
lines_at w seen entities e = sheets.lines_at w seen.rows.items seen.bands.items entities e

abbrev pub all_lines : Window → Samples → List Entity → List ℕ
all_lines w seen entities = sheets.all_lines w seen.rows.items seen.bands.items entities

-- the sheet
abbrev pub sheet : Window → Progress → Samples → List ℕ
sheet w p seen = sheets.sheet w p.job.parts.entities seen.rows.items seen.bands.items
