-- The lines of what procedures come from.
use Rattle.std.specs.Prelude.{◌≡◌, ℕ, List, [], ◌∷◌, ◌++◌, Vec, map, slice_get}
use Rattle.std.specs.Global.{Global}
use Rattle.gw_text.specs.declared.model.Model.{Model}
use Rattle.gw_text.specs.declared.model.Statement.{Statement}
use Rattle.gw_pieces.specs.declared.origins.Origin.{Origin}
use Rattle.gw_pieces.specs.Order.{order_in}
use Rattle.gw_pieces.specs.Reasons.{line_of}

-- the line on which the statement of an origin begins
abbrev pub line_of_origin : List Statement → Origin → ℕ
line_of_origin ss origin = line_of (slice_get ss origin.statement)

-- the line of an origin comes behind others
abbrev pub AddsLine : Model → Origin → Vec ℕ Global → Vec ℕ Global → Type 0
AddsLine text origin old new = new.items ≡ old.items ++ line_of_origin text.statements.items origin ∷ []

-- these are the lines of the statements of these origins, in order
abbrev pub AreLines : Model → List Origin → Vec ℕ Global → Type 0
AreLines text order lines = lines.items ≡ map (line_of_origin text.statements.items) order

-- the lines of the origins of a text's procedures, in the order of the procedures
unfoldable pub procedure_lines : List Statement → List ℕ
procedure_lines ss = map (line_of_origin ss) (order_in ss)
