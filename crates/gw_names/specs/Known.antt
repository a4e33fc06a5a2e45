-- What is known of names.
use Rattle.std.specs.Prelude.{◌≡◌, ℕ, List, Option, None, Bool, true, false, ◌&&◌}
use Rattle.std.specs.Str.{bytes_eq}
use Rattle.std.specs.declared.string.String.{String}
use Rattle.indexmap.specs.IndexMap.{IndexMap, get_by_text}
use Rattle.gw_rules.specs.declared.entities.EntityKind.{EntityKind}
use Rattle.gw_rules.specs.declared.entities.EntityKind.TheVariants as kinds
use Rattle.gw_names.specs.declared.entities.ByKind.{ByKind}

-- what a name stands for in a map
abbrev pub found_in : {X Y S : Type 0} → IndexMap (String Y) X S → List ℕ → Option X
found_in m name = get_by_text m name

-- in a map each name stands for what this function answers
abbrev pub Finds : {X Y S : Type 0} → (List ℕ → Option X) → IndexMap (String Y) X S → Type 0
Finds answer m = (name : List ℕ) → found_in m name ≡ answer name

-- what is kept of the entity of a kind and a name
abbrev pub entity_of : {X : Type 0} → ByKind X → EntityKind → List ℕ → Option X
entity_of names kinds.Facility name = found_in names.facilities name
entity_of names kinds.Storage name = found_in names.storages name
entity_of names kinds.Queue name = found_in names.queues name
entity_of names kinds.Switch name = found_in names.switches name
entity_of names kinds.Savevalue name = found_in names.savevalues name
entity_of names kinds.Table name = found_in names.tables name
entity_of names kinds.Chain name = found_in names.chains name
entity_of names kinds.Variable name = found_in names.variables name
entity_of names kinds.BooleanVariable name = found_in names.boolean_variables name
entity_of names kinds.Function name = found_in names.functions name
entity_of names kinds.StorageOrQueue name = None

-- an entity's kind and name, by which it is known
pub record Key : Type 0 where
  pub kind : EntityKind
  pub name : List ℕ

-- the key of a kind and a name
abbrev pub key : EntityKind → List ℕ → Key
key kind name = record { kind = kind; name = name }

-- whether both are one kind of entities
abbrev pub is_same_kind : EntityKind → EntityKind → Bool
is_same_kind kinds.Facility kinds.Facility = true
is_same_kind kinds.Storage kinds.Storage = true
is_same_kind kinds.Queue kinds.Queue = true
is_same_kind kinds.Switch kinds.Switch = true
is_same_kind kinds.Savevalue kinds.Savevalue = true
is_same_kind kinds.Table kinds.Table = true
is_same_kind kinds.Chain kinds.Chain = true
is_same_kind kinds.Variable kinds.Variable = true
is_same_kind kinds.BooleanVariable kinds.BooleanVariable = true
is_same_kind kinds.Function kinds.Function = true
is_same_kind kind other = false

-- whether both are one entity's
abbrev pub is_same : Key → Key → Bool
is_same one other = is_same_kind one.kind other.kind && bytes_eq one.name other.name
