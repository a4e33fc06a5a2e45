-- Entities and parameters as they are seen.
use Rattle.std.specs.Prelude.{◌≡◌, ℕ, List, [], ◌∷◌, ◌++◌, Vec, map, slice_get, option_and_then, string_bytes}
use Rattle.std.specs.Global.{Global}
use Rattle.std.specs.List.{position_from}
use Rattle.std.specs.Str.{bytes_eq}
use Rattle.std.specs.declared.string.String.{String}
use Rattle.indexmap.specs.IndexMap.{IndexMap, keys}
use Rattle.gw_rules.specs.declared.entities.EntityKind.{EntityKind}
use Rattle.gw_name_uses.specs.declared.sites.Site.{Site}
use Rattle.gw_name_uses.specs.declared.uses.Use.{Use}
use Rattle.gw_name_uses.specs.Mentions.{mention}
use Rattle.gw_name_uses.specs.Sites.{mention_at}
use Rattle.gw_names.specs.declared.entities.ByKind.{ByKind}
use Rattle.gw_names.specs.declared.ledger.Ledger.{Ledger}
use Rattle.gw_names.specs.declared.sights.Sighted.{Sighted}
use Rattle.gw_names.specs.Known.{Key, key, found_in, entity_of}
use Rattle.gw_names.specs.Ledger.{Notes}
use Rattle.gw_names.specs.Sights.{number_among, with_entity, with_entity_in, entities_after, unplaced_entity, unplaced_entity_in, entity_limits_after}
use Rattle.gw_names.specs.Sights.{with_parameter, with_parameter_in, parameters_after, unplaced_parameter, unplaced_parameter_in, parameter_limits_after}

-- the key of an entity
abbrev pub key_of : Sighted → Key
key_of s = key s.kind (string_bytes s.name)

-- the keys of the entities that were seen, by their numbers
abbrev pub keys_of : List Sighted → List Key
keys_of sighted = map key_of sighted

-- the entity of a kind and a name comes behind the others
abbrev pub AddsKey : EntityKind → List ℕ → Vec Sighted Global → Vec Sighted Global → Type 0
AddsKey kind name old new = keys_of new.items ≡ keys_of old.items ++ key kind name ∷ []

-- an entity is seen: it comes behind the others where it is new and there is room
abbrev pub SeesKey : {Y : Type 0} → EntityKind → String Y → Vec Sighted Global → Vec Sighted Global → Type 0
SeesKey kind name old new = keys_of new.items ≡ with_entity (keys_of old.items) (key kind (string_bytes name))

-- what is used is seen, if it is an entity
abbrev pub SeesKeyIn : Use → Vec Sighted Global → Vec Sighted Global → Type 0
SeesKeyIn used old new = keys_of new.items ≡ with_entity_in (keys_of old.items) (mention used)

-- and what is used at these sites
abbrev pub SeesKeys : List Site → Vec Sighted Global → Vec Sighted Global → Type 0
SeesKeys sites old new = keys_of new.items ≡ entities_after (keys_of old.items) (map mention_at sites)

-- behind those seen so far an entity is refused on a line where it is new and there is no room
abbrev pub RefusesKey : {Y : Type 0} → Vec Sighted Global → ℕ → EntityKind → String Y → Ledger → Ledger → Type 0
RefusesKey seen line kind name old new = Notes old new (unplaced_entity (keys_of seen.items) line (key kind (string_bytes name)))

-- what is used is, if it is an entity
abbrev pub RefusesKeyIn : Vec Sighted Global → ℕ → Use → Ledger → Ledger → Type 0
RefusesKeyIn seen line used old new = Notes old new (unplaced_entity_in (keys_of seen.items) line (mention used))

-- and what is used at these sites
abbrev pub RefusesKeys : Vec Sighted Global → List Site → Ledger → Ledger → Type 0
RefusesKeys seen sites old new = Notes old new (entity_limits_after (keys_of seen.items) (map mention_at sites))

-- entities that were seen have their places for their numbers, and say what declares them
pub record IsSighted (declarations entities : ByKind ℕ) (sighted : List Sighted) : Type 0 where
  pub number : (kind : EntityKind) (name : List ℕ) → entity_of entities kind name ≡ number_among (keys_of sighted) (key kind name)
  pub declared : map (λ (s : Sighted). s.declaration) sighted ≡ map (λ (k : Key). entity_of declarations k.kind k.name) (keys_of sighted)

module _ {Y S : Type 0} where
  -- the names of the parameters that were seen, in order
  abbrev pub names_of : IndexMap (String Y) ℕ S → List (List ℕ)
  names_of parameters = map string_bytes (keys parameters)

  -- a parameter of this name comes behind the others
  abbrev pub AddsName : List ℕ → IndexMap (String Y) ℕ S → IndexMap (String Y) ℕ S → Type 0
  AddsName name old new = names_of new ≡ names_of old ++ name ∷ []

  -- a parameter is seen where these numbers are free: it comes behind the others where it is new and a number is left
  abbrev pub SeesName : List ℕ → String Y → IndexMap (String Y) ℕ S → IndexMap (String Y) ℕ S → Type 0
  SeesName free name old new = names_of new ≡ with_parameter free (names_of old) (string_bytes name)

  -- what is used is seen, if it is a named parameter
  abbrev pub SeesNameIn : List ℕ → Use → IndexMap (String Y) ℕ S → IndexMap (String Y) ℕ S → Type 0
  SeesNameIn free used old new = names_of new ≡ with_parameter_in free (names_of old) (mention used)

  -- and what is used at these sites
  abbrev pub SeesNames : List ℕ → List Site → IndexMap (String Y) ℕ S → IndexMap (String Y) ℕ S → Type 0
  SeesNames free sites old new = names_of new ≡ parameters_after free (names_of old) (map mention_at sites)

  -- behind those seen so far a parameter is refused on a line where it is new and none of these numbers is left
  abbrev pub RefusesName : List ℕ → IndexMap (String Y) ℕ S → ℕ → String Y → Ledger → Ledger → Type 0
  RefusesName free seen line name old new = Notes old new (unplaced_parameter free (names_of seen) line (string_bytes name))

  -- what is used is, if it is a named parameter
  abbrev pub RefusesNameIn : List ℕ → IndexMap (String Y) ℕ S → ℕ → Use → Ledger → Ledger → Type 0
  RefusesNameIn free seen line used old new = Notes old new (unplaced_parameter_in free (names_of seen) line (mention used))

  -- and what is used at these sites
  abbrev pub RefusesNames : List ℕ → IndexMap (String Y) ℕ S → List Site → Ledger → Ledger → Type 0
  RefusesNames free seen sites old new = Notes old new (parameter_limits_after free (names_of seen) (map mention_at sites))

  -- parameters that were seen have these numbers, in order
  abbrev pub HaveNumbers : List ℕ → IndexMap (String Y) ℕ S → Type 0
  HaveNumbers free parameters = (name : List ℕ) → found_in parameters name
      ≡ option_and_then (slice_get free) (position_from (bytes_eq name) 0 (names_of parameters))
