-- What a text speaks of, in order of first sight, and the numbers that it gets.
use Rattle.std.specs.Prelude.{ℕ, zero, suc, List, [], ◌∷◌, ◌++◌, length, Option, Some, None, Bool, false, if◌then◌else◌, nat_lt, nat_eq, slice_get}
use Rattle.std.specs.Prelude.{option_and_then}
use Rattle.std.specs.List.{list_any, position_from}
use Rattle.std.specs.Str.{bytes_eq}
use Rattle.gw_text.specs.declared.model.Statement.{Statement}
use Rattle.gw_name_uses.specs.Mentions.{Mention, Entity, Parameter, ParameterNumber, Label, Equ, Call, Target}
use Rattle.gw_name_uses.specs.Sites.{Mentioned, mentioned_in}
use Rattle.gw_names.specs.declared.ledger.Noted.{Noted}
use Rattle.gw_names.specs.Codes.{limit_fault}
use Rattle.gw_names.specs.Ledger.{noted_at}
use Rattle.gw_names.specs.Known.{Key, key, is_same}

-- FIRST SIGHTS

-- of what is picked from mentions, where there is room for so many
module _ {A : Type 0} (pick : Mention → Option A) (same : A → A → Bool) (room : ℕ) where
  -- those seen so far with one more, where it is new and there is room
  abbrev pub with_sight : List A → A → List A
  with_sight seen x = if list_any (same x) seen then seen else if nat_lt (length seen) room then seen ++ x ∷ [] else seen

  -- and with what a mention speaks of
  abbrev pub with_pick : List A → Option A → List A
  with_pick seen None = seen
  with_pick seen (Some x) = with_sight seen x

  -- those seen after these mentions
  abbrev pub seen_after : List A → List Mentioned → List A
  seen_after seen [] = seen
  seen_after seen (m ∷ ms) = seen_after (with_pick seen (pick m.what)) ms

  -- the refusal of one more, where it is new and there is no room
  abbrev pub limit_for : List A → ℕ → A → List Noted
  limit_for seen line x = if list_any (same x) seen then [] else if nat_lt (length seen) room then [] else noted_at line limit_fault ∷ []

  -- and of what a mention speaks of
  abbrev pub unplaced_pick : List A → ℕ → Option A → List Noted
  unplaced_pick seen line None = []
  unplaced_pick seen line (Some x) = limit_for seen line x

  -- the refusals of these mentions
  abbrev pub limits_after : List A → List Mentioned → List Noted
  limits_after seen [] = []
  limits_after seen (m ∷ ms) = unplaced_pick seen m.line (pick m.what) ++ limits_after (with_pick seen (pick m.what)) ms

-- ENTITIES

-- the entity that a mention speaks of
abbrev pub entity_in : Mention → Option Key
entity_in (Entity kind name) = Some (key kind name)
entity_in (Parameter name) = None
entity_in (ParameterNumber x) = None
entity_in (Label label) = None
entity_in (Equ name) = None
entity_in (Call name given) = None
entity_in (Target name) = None

-- the most entities of an object
abbrev pub most_entities : ℕ
most_entities = 1024

-- those seen so far with one more, where it is new and there is room
abbrev pub with_entity : List Key → Key → List Key
with_entity seen entity = with_sight entity_in is_same most_entities seen entity

-- and with what a mention speaks of
abbrev pub with_entity_in : List Key → Mention → List Key
with_entity_in seen m = with_pick entity_in is_same most_entities seen (entity_in m)

-- and after these mentions
abbrev pub entities_after : List Key → List Mentioned → List Key
entities_after seen ms = seen_after entity_in is_same most_entities seen ms

-- the refusal of one more, where it is new and there is no room
abbrev pub unplaced_entity : List Key → ℕ → Key → List Noted
unplaced_entity seen line entity = limit_for entity_in is_same most_entities seen line entity

-- and of what a mention speaks of
abbrev pub unplaced_entity_in : List Key → ℕ → Mention → List Noted
unplaced_entity_in seen line m = unplaced_pick entity_in is_same most_entities seen line (entity_in m)

-- and those of these mentions
abbrev pub entity_limits_after : List Key → List Mentioned → List Noted
entity_limits_after seen ms = limits_after entity_in is_same most_entities seen ms

-- the entities of a text by their numbers: in order of first sight
abbrev pub entities_of : List Statement → List Key
entities_of statements = entities_after [] (mentioned_in statements)

-- the number of an entity among these
abbrev pub number_among : List Key → Key → Option ℕ
number_among entities entity = position_from (is_same entity) 0 entities

-- PARAMETERS

-- the named parameter that a mention speaks of
abbrev pub parameter_in : Mention → Option (List ℕ)
parameter_in (Parameter name) = Some name
parameter_in (Entity kind name) = None
parameter_in (ParameterNumber x) = None
parameter_in (Label label) = None
parameter_in (Equ name) = None
parameter_in (Call name given) = None
parameter_in (Target name) = None

-- whether a mention uses the parameter of this number
abbrev pub uses_number : ℕ → Mention → Bool
uses_number x (ParameterNumber used) = nat_eq used x
uses_number x (Entity kind name) = false
uses_number x (Parameter name) = false
uses_number x (Label label) = false
uses_number x (Equ name) = false
uses_number x (Call name given) = false
uses_number x (Target name) = false

-- whether a text uses the parameter of this number
abbrev pub is_used : List Mentioned → ℕ → Bool
is_used ms x = list_any (λ (m : Mentioned). uses_number x m.what) ms

-- a number, unless it is used
abbrev pub unless_used : Bool → ℕ → List ℕ
unless_used used x = if used then [] else x ∷ []

-- the numbers from 1 to this that a text doesn't use, ascending
abbrev pub free_up_to : List Mentioned → ℕ → List ℕ
free_up_to ms zero = []
free_up_to ms (suc n) = free_up_to ms n ++ unless_used (is_used ms (suc n)) (suc n)

-- and to the highest number of a parameter
unfoldable pub free_numbers : List Mentioned → List ℕ
free_numbers ms = free_up_to ms 64

-- where these numbers are free
module _ (free : List ℕ) where
  -- the named parameters seen so far with one more, where it is new and a number is left
  abbrev pub with_parameter : List (List ℕ) → List ℕ → List (List ℕ)
  with_parameter seen name = with_sight parameter_in bytes_eq (length free) seen name

  -- and with what a mention speaks of
  abbrev pub with_parameter_in : List (List ℕ) → Mention → List (List ℕ)
  with_parameter_in seen m = with_pick parameter_in bytes_eq (length free) seen (parameter_in m)

  -- and after these mentions
  abbrev pub parameters_after : List (List ℕ) → List Mentioned → List (List ℕ)
  parameters_after seen ms = seen_after parameter_in bytes_eq (length free) seen ms

  -- the refusal of one more, where it is new and no number is left
  abbrev pub unplaced_parameter : List (List ℕ) → ℕ → List ℕ → List Noted
  unplaced_parameter seen line name = limit_for parameter_in bytes_eq (length free) seen line name

  -- and of what a mention speaks of
  abbrev pub unplaced_parameter_in : List (List ℕ) → ℕ → Mention → List Noted
  unplaced_parameter_in seen line m = unplaced_pick parameter_in bytes_eq (length free) seen line (parameter_in m)

  -- and those of these mentions
  abbrev pub parameter_limits_after : List (List ℕ) → List Mentioned → List Noted
  parameter_limits_after seen ms = limits_after parameter_in bytes_eq (length free) seen ms

-- the named parameters of which mentions speak, in order of first sight: as many as there are numbers
abbrev pub parameters_among : List Mentioned → List (List ℕ)
parameters_among ms = parameters_after (free_numbers ms) [] ms

-- those of a text
abbrev pub parameters_of : List Statement → List (List ℕ)
parameters_of statements = parameters_among (mentioned_in statements)

-- the number of a named parameter: the first one has the lowest number that the text doesn't use, and each other one the next
abbrev pub parameter_of : List Statement → List ℕ → Option ℕ
parameter_of statements name = option_and_then (slice_get (free_numbers (mentioned_in statements))) (position_from (bytes_eq name) 0 (parameters_of statements))

-- REFUSALS

-- the named parameters for which no number is left
abbrev pub parameter_limits_among : List Mentioned → List Noted
parameter_limits_among ms = parameter_limits_after (free_numbers ms) [] ms

-- the entities, and then the named parameters, for which there is no room
abbrev pub limits_in : List Statement → List Noted
limits_in statements =
    let ms = mentioned_in statements in
    entity_limits_after [] ms ++ parameter_limits_among ms
