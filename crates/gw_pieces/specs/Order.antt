-- The procedures of a text and their order: that of the text, but what one calls comes before it, in order of first sight.
use Rattle.std.specs.Prelude.{◌≡◌, Vec, ℕ, zero, suc, ◌+◌, ℤ, List, [], ◌∷◌, ◌++◌, length, replicate, set, Option, Some, None, option_and_then}
use Rattle.std.specs.Prelude.{option_to_list, Bool, true, false, ◌&&◌, not, is_some, is_none, if◌then◌else◌, nat_lt, ◌==◌, slice_get, string_bytes}
use Rattle.std.specs.List.{flat_map}
use Rattle.std.specs.Global.{Global}
use Rattle.gw_rules.specs.declared.entities.EntityKind.{EntityKind}
use Rattle.gw_rules.specs.declared.entities.EntityKind.TheVariants as kinds
use Rattle.gw_object.specs.declared.limits.TheConstants.{MOST_PROCEDURES}
use Rattle.gw_text_expressions.specs.declared.model.EntityValue.{EntityValue}
use Rattle.gw_text_expressions.specs.declared.model.EntityValue.TheVariants as values
use Rattle.gw_text_expressions.specs.declared.model.Expression.{Expression}
use Rattle.gw_text_expressions.specs.declared.model.Sna.{Sna}
use Rattle.gw_text_expressions.specs.declared.model.Sna.TheVariants as snas
use Rattle.gw_text_statements.specs.declared.model.Operand.{Operand}
use Rattle.gw_text_statements.specs.declared.model.Operand.TheVariants as texts
use Rattle.gw_text.specs.declared.model.Body.{Body}
use Rattle.gw_text.specs.declared.model.Body.TheVariants as bodies
use Rattle.gw_text.specs.declared.model.Model.{Model}
use Rattle.gw_text.specs.declared.model.Statement.{Statement}
use Rattle.gw_name_uses.specs.Mentions.{Mention, Entity, Parameter, ParameterNumber, Label, Equ, Call, Target, in_expression, in_procedure}
use Rattle.gw_names.specs.declared.known.Known.{Known}
use Rattle.gw_names.specs.Known.{found_in}
use Rattle.gw_names.specs.Judgement.{Declared, declared_in, declared_by}
use Rattle.gw_names.specs.Places.{is_equ, label_of, equ_number_of}
use Rattle.gw_pieces.specs.declared.order.Order.{Order}
use Rattle.gw_pieces.specs.declared.order.Text.{Text}
use Rattle.gw_pieces.specs.declared.origins.Origin.{Origin}
use Rattle.gw_pieces.specs.Origins.{expression_at, whole_call, is_variable, place_in}

-- ORIGINS

-- the origin at a position of a statement
abbrev pub origin_at : ℕ → ℕ → Origin
origin_at i k = record { statement = i; operand = k }

-- whether a name is a number, where these are
abbrev pub is_number : (List ℕ → Option ℤ) → Option (List ℕ) → Bool
is_number numbers None = false
is_number numbers (Some name) = is_some (numbers name)

-- whether an operand is an expression, but no whole call
abbrev pub is_own : Option Expression → Bool
is_own None = false
is_own (Some e) = is_none (whole_call e)

-- whether a procedure comes from a position of an EQU, which has its expression there
abbrev pub is_equ_origin : (List ℕ → Option ℤ) → Statement → ℕ → Bool
is_equ_origin numbers s k = k == 0 && not (is_number numbers (label_of s)) && is_some (expression_at s k)

-- whether a procedure comes from a position of a statement that has no PROCEDURE
abbrev pub is_operand_origin : (List ℕ → Option ℤ) → Statement → ℕ → Bool
is_operand_origin numbers s k =
    if is_equ s.word then is_equ_origin numbers s k
    else if is_variable s.word then is_some (expression_at s k)
    else is_own (expression_at s k)

-- the same, where these names are known
abbrev pub is_known_origin : Known → Statement → ℕ → Bool
is_known_origin known s k = is_operand_origin (found_in known.equ_numbers) s k

-- whether a procedure comes from a position of a statement
abbrev pub is_origin_by : (List ℕ → Option ℤ) → Body → Statement → ℕ → Bool
is_origin_by numbers (bodies.Procedure procedure) s k = k == 0
is_origin_by numbers bodies.Nothing s k = is_operand_origin numbers s k
is_origin_by numbers (bodies.Points points) s k = is_operand_origin numbers s k

abbrev pub is_origin : (List ℕ → Option ℤ) → Statement → ℕ → Bool
is_origin numbers s k = is_origin_by numbers s.body s k

-- the origin there, if there is one
abbrev pub origin_if : (List ℕ → Option ℤ) → Statement → ℕ → ℕ → List Origin
origin_if numbers s i k = if is_origin numbers s k then origin_at i k ∷ [] else []

-- the origins in a statement: expressions stand at the first two positions
abbrev pub origins_of : (List ℕ → Option ℤ) → Statement → ℕ → List Origin
origins_of numbers s i = origin_if numbers s i 0 ++ origin_if numbers s i 1

-- and in statements, of which the first has this number
abbrev pub origins_from : (List ℕ → Option ℤ) → ℕ → List Statement → List Origin
origins_from numbers i [] = []
origins_from numbers i (s ∷ ss) = origins_of numbers s i ++ origins_from numbers (i + 1) ss

-- THE ORIGINS OF A TEXT

-- the origin at a position of a statement comes behind others, if it is one
abbrev pub AddsOrigin : Known → Statement → ℕ → ℕ → Vec Origin Global → Vec Origin Global → Type 0
AddsOrigin known s i k old new = new.items ≡ old.items ++ origin_if (found_in known.equ_numbers) s i k

-- and those in a statement do
abbrev pub AddsOrigins : Known → Statement → ℕ → Vec Origin Global → Vec Origin Global → Type 0
AddsOrigins known s i old new = new.items ≡ old.items ++ origins_of (found_in known.equ_numbers) s i

-- these are all of a text
abbrev pub AreOrigins : Known → Model → Vec Origin Global → Type 0
AreOrigins known text made = made.items ≡ origins_from (found_in known.equ_numbers) 0 text.statements.items

-- CALLS

-- what is looked up to find the order
pub record Lookup : Type 0 where
  -- what is declared
  pub declared : Declared
  -- the statements
  pub statements : List Statement
  -- where procedures come from, in the order of the text
  pub origins : List Origin

-- the origin of a PROCEDURE, an EQU or a variable by its statement
abbrev pub of_statement : Option ℕ → Option Origin
of_statement None = None
of_statement (Some i) = Some (origin_at i 0)

-- what an expression mentions, if there is one
abbrev pub in_operand : Option Expression → List Mention
in_operand None = []
in_operand (Some e) = in_expression [] e

-- what stands at a position of a statement mentions: its PROCEDURE, or else the expression there
abbrev pub mentions_by : Body → Statement → ℕ → List Mention
mentions_by (bodies.Procedure procedure) s k = in_procedure procedure
mentions_by bodies.Nothing s k = in_operand (expression_at s k)
mentions_by (bodies.Points points) s k = in_operand (expression_at s k)

-- the same of a statement
abbrev pub mentions_at : Statement → ℕ → List Mention
mentions_at s k = mentions_by s.body s k

-- if there is one
abbrev pub mentions_of : Option Statement → ℕ → List Mention
mentions_of None k = []
mentions_of (Some s) k = mentions_by s.body s k

-- the argument of the FUNCTION that a statement is
abbrev pub argument_of : Option Statement → Option Operand
argument_of None = None
argument_of (Some s) = slice_get s.operands.items 0

module _ (l : Lookup) where
  -- of a variable that an attribute is
  abbrev pub of_value : EntityValue → List ℕ → Option Origin
  of_value values.Variable name = of_statement (l.declared.entity kinds.Variable name)
  of_value values.BVariable name = of_statement (l.declared.entity kinds.BooleanVariable name)
  of_value value name = None

  abbrev pub of_attribute : Sna → Option Origin
  of_attribute (snas.OfEntity value name) = of_value value (string_bytes name)
  of_attribute sna = None

  -- of the PROCEDURE that is called as a whole, or else of the statement's own operand
  abbrev pub of_call : ℕ → Option (List ℕ) → Option Origin
  of_call i (Some name) = of_statement (l.declared.procedure name)
  of_call i None = Some (origin_at i 0)

  -- of what the argument of a FUNCTION calls
  abbrev pub of_argument : ℕ → Option Operand → Option Origin
  of_argument i (Some (texts.Name name)) = of_statement (l.declared.equ (string_bytes name))
  of_argument i (Some (texts.Sna sna)) = of_attribute sna
  of_argument i (Some (texts.Expression e)) = of_call i (whole_call e)
  of_argument i (Some texts.Missing) = None
  of_argument i (Some (texts.Whole z)) = None
  of_argument i (Some (texts.Fraction thousandths)) = None
  of_argument i (Some texts.Both) = None
  of_argument i None = None

  -- of what the FUNCTION of a statement calls
  abbrev pub of_function : Option ℕ → Option Origin
  of_function None = None
  of_function (Some i) = of_argument i (argument_of (slice_get l.statements i))

  -- of what an entity calls
  abbrev pub of_entity : EntityKind → List ℕ → Option Origin
  of_entity kinds.Function name = of_function (l.declared.entity kinds.Function name)
  of_entity kinds.Variable name = of_statement (l.declared.entity kinds.Variable name)
  of_entity kinds.BooleanVariable name = of_statement (l.declared.entity kinds.BooleanVariable name)
  of_entity kind name = None

  -- of what a mention calls
  abbrev pub origin_called : Mention → Option Origin
  origin_called (Entity kind name) = of_entity kind name
  origin_called (Equ name) = of_statement (l.declared.equ name)
  origin_called (Call name given) = of_statement (l.declared.procedure name)
  origin_called (Parameter name) = None
  origin_called (ParameterNumber x) = None
  origin_called (Label label) = None
  origin_called (Target name) = None

  -- its place among the origins
  abbrev pub place_of_called : Mention → Option ℕ
  place_of_called m = option_and_then (place_in l.origins) (origin_called m)

  abbrev pub place_called : Mention → List ℕ
  place_called m = option_to_list (place_of_called m)

  -- the places of what an origin calls, in order of first sight
  abbrev pub places_called : Origin → List ℕ
  places_called o = flat_map place_called (mentions_of (slice_get l.statements o.statement) o.operand)

-- THE ORDER

-- the order while it is found: which origins were come to, and those that have their places
pub record Search : Type 0 where
  pub visited : List Bool
  pub done : List Origin

-- an origin gets its place
abbrev pub with_done : Search → Origin → Search
with_done s o = record s { done = s.done ++ o ∷ [] }

-- an origin is come to
abbrev pub with_visited : Search → ℕ → Search
with_visited s place = record s { visited = set s.visited place true }

-- the origin at a place, unless it was come to before
abbrev pub origin_unless_visited : Option Bool → Option Origin → Option Origin
origin_unless_visited (Some false) origin = origin
origin_unless_visited (Some true) origin = None
origin_unless_visited None origin = None

module _ (l : Lookup) where
  -- an origin gets its place in the order behind what it calls, which gets its own so
  abbrev pub visit_to : (Search → List ℕ → Search) → Search → ℕ → Option Origin → Search
  visit_to deeper s place None = s
  visit_to deeper s place (Some o) = with_done (deeper (with_visited s place) (places_called l o)) o

  abbrev pub visit_with : (Search → List ℕ → Search) → Search → ℕ → Search
  visit_with deeper s place = visit_to deeper s place (origin_unless_visited (slice_get s.visited place) (slice_get l.origins place))

  -- so do those at these places, one after the other
  abbrev pub visit_each : (Search → List ℕ → Search) → Search → List ℕ → Search
  visit_each deeper s [] = s
  visit_each deeper s (place ∷ places) = visit_each deeper (visit_with deeper s place) places

  -- depth first, at most so deep
  abbrev pub search_to : ℕ → Search → List ℕ → Search
  search_to zero s places = s
  search_to (suc depth) s places = visit_each (search_to depth) s places

-- so many numbers, from this one on
abbrev pub numbers_from : ℕ → ℕ → List ℕ
numbers_from i zero = []
numbers_from i (suc n) = i ∷ numbers_from (i + 1) n

-- all origins get their places, in the order of the text
abbrev pub search_all : Lookup → Search → Search
search_all l s = visit_each l (search_to l (length l.origins)) s (numbers_from 0 (length l.origins))

-- nothing was come to
abbrev pub empty_search : ℕ → Search
empty_search count = record { visited = replicate count false; done = [] }

-- the origins in their order
abbrev pub ordered_by : Lookup → List Origin
ordered_by l = (search_all l (empty_search (length l.origins))).done

-- the same, unless there are too many
abbrev pub order_by : Lookup → List Origin
order_by l = if nat_lt MOST_PROCEDURES (length l.origins) then l.origins else ordered_by l

-- what is looked up by what is known of a text's names
abbrev pub lookup_by : Known → List Statement → List Origin → Lookup
lookup_by known ss origins = record { declared = declared_by known; statements = ss; origins = origins }

-- and by the statements of a text
abbrev pub lookup_for : Known → Model → List Origin → Lookup
lookup_for known text origins = lookup_by known text.statements.items origins

abbrev pub lookup_of : Text → Lookup
lookup_of text = lookup_by text.known.now text.model.now.statements.items text.origins.now

-- the order while it is found, as it is kept
abbrev pub search_of : Order → Search
search_of order = record { visited = order.visited.items; done = order.done.items }

-- what is looked up in a text
abbrev pub lookup_in : List Statement → Lookup
lookup_in ss = record { declared = declared_in ss; statements = ss; origins = origins_from (equ_number_of ss) 0 ss }

-- the origins of the procedures of a text, in order
abbrev pub order_in : List Statement → List Origin
order_in ss = order_by (lookup_in ss)

-- these are the places of those that are called at an origin of a text
abbrev pub AreCallees : Text → Origin → Vec ℕ Global → Type 0
AreCallees text origin callees = callees.items ≡ places_called (lookup_of text) origin

module _ (text : Text) where
  -- the place of what is called comes behind others
  abbrev pub AddsCallee : Mention → Vec ℕ Global → Vec ℕ Global → Type 0
  AddsCallee m old new = new.items ≡ old.items ++ place_called (lookup_of text) m

  -- and those of all that is
  abbrev pub AddsCallees : List Mention → Vec ℕ Global → Vec ℕ Global → Type 0
  AddsCallees ms old new = new.items ≡ old.items ++ flat_map (place_called (lookup_of text)) ms

  -- the order goes on by the origin at a place, at most so deep
  abbrev pub Visits : ℕ → ℕ → Order → Order → Type 0
  Visits place depth old new = search_of new ≡ visit_with (lookup_of text) (search_to (lookup_of text) depth) (search_of old) place

  -- by those that an origin calls
  abbrev pub VisitsCallees : Origin → ℕ → Order → Order → Type 0
  VisitsCallees o depth old new = search_of new ≡ search_to (lookup_of text) depth (search_of old) (places_called (lookup_of text) o)

  -- by those at these places
  abbrev pub VisitsPlaces : List ℕ → ℕ → Order → Order → Type 0
  VisitsPlaces places depth old new = search_of new ≡ visit_each (lookup_of text) (search_to (lookup_of text) depth) (search_of old) places

  -- and until all origins were come to
  abbrev pub SearchesAll : Order → Order → Type 0
  SearchesAll old new = search_of new ≡ search_all (lookup_of text) (search_of old)
