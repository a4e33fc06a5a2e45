-- What is in the entities of a model.
use Rattle.std.specs.Prelude.{ℕ, ◌+◌, ◌-◌, ◌^◌, min, ℤ, pos, List, [], ◌∷◌, length, slice_index_or, is_some}
use Rattle.std.specs.Int.{from_bool}
use Rattle.gw_object.specs.declared.parts.Entity.{Entity}
use Rattle.gw_object.specs.declared.parts.Kind.{Kind}
use Rattle.gw_object.specs.declared.parts.Kind.TheVariants as kinds
use Rattle.gw_step.specs.State.{State, user_chain}
use Rattle.gw_step.specs.Changes.{facility, storage, queue, switch, savevalue}

-- a count as a number; none comes to 2^63
abbrev pub count_value : ℕ → ℤ
count_value count = pos (min count (2 ^ 63 - 1))

-- what is in the entity of a number, which is of this kind: 1 in a facility that is owned or a switch that is set, the
-- units in a storage or a queue, the members of a user chain, the value of a savevalue
abbrev pub content_of : Kind → State → ℕ → ℤ
content_of kinds.Facility s e = pos (from_bool (is_some (facility e s).owner))
content_of (kinds.Storage capacity) s e = count_value (storage e s).contents.content
content_of kinds.Queue s e = count_value (queue e s).content
content_of (kinds.Switch set) s e = pos (from_bool (switch e s))
content_of kinds.Chain s e = count_value (length (user_chain e s))
content_of (kinds.Savevalue initial) s e = savevalue e s
content_of kind s e = pos 0

-- what is in each of these entities, the first of which has this number
unfoldable pub contents_from : State → ℕ → List Entity → List ℤ
contents_from s e [] = []
contents_from s e (entity ∷ rest) = content_of entity.kind s e ∷ contents_from s (e + 1) rest

-- what is in the entity of a number, where a row has what is in each
abbrev pub value_in : List ℤ → ℕ → ℤ
value_in row e = slice_index_or row e (pos 0)
