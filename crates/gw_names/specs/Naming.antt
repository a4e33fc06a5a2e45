-- What is known of a text's names.
use Rattle.std.specs.Prelude.{◌≡◌, ℕ, List, [], None, map}
use Rattle.gw_rules.specs.declared.entities.EntityKind.{EntityKind}
use Rattle.gw_text.specs.declared.model.Statement.{Statement}
use Rattle.gw_names.specs.declared.known.Known.{Known}
use Rattle.gw_names.specs.declared.sights.Sighted.{Sighted}
use Rattle.gw_names.specs.Known.{key, found_in, entity_of}
use Rattle.gw_names.specs.Sighting.{keys_of}
use Rattle.gw_names.specs.Places.{declaration_of, block_of, equ_of, procedure_of, equ_number_of}
use Rattle.gw_names.specs.Sights.{entities_of, number_among, parameter_of}

-- what is known of what these statements use: entities and parameters
pub record KnowsUses (statements : List Statement) (known : Known) : Type 0 where
  -- entities have their places in order of first sight for their numbers
  pub entity : (kind : EntityKind) (name : List ℕ) → entity_of known.entities kind name ≡ number_among (entities_of statements) (key kind name)
  pub sighted : keys_of known.sighted.items ≡ entities_of statements
  -- and what declares them
  pub declared : map (λ (s : Sighted). s.declaration) known.sighted.items ≡ map (declaration_of statements) (entities_of statements)
  pub declaration : (kind : EntityKind) (name : List ℕ) → entity_of known.declarations kind name ≡ declaration_of statements (key kind name)
  -- named parameters have the numbers that are free
  pub parameter : (name : List ℕ) → found_in known.parameters name ≡ parameter_of statements name

-- and of what they declare: labels, PROCEDUREs and EQUs
pub record KnowsPlaces (statements : List Statement) (known : Known) : Type 0 where
  pub block : (label : List ℕ) → found_in known.blocks label ≡ block_of statements label
  pub procedure : (name : List ℕ) → found_in known.procedures name ≡ procedure_of statements name
  pub equ : (name : List ℕ) → found_in known.equs name ≡ equ_of statements name
  pub equ_number : (name : List ℕ) → found_in known.equ_numbers name ≡ equ_number_of statements name

-- what is known of the names of these statements
pub record Knows (statements : List Statement) (known : Known) : Type 0 where
  pub uses : KnowsUses statements known
  pub places : KnowsPlaces statements known

-- no entity is known
pub record IsUnknown (known : Known) : Type 0 where
  pub entities : (kind : EntityKind) (name : List ℕ) → entity_of known.entities kind name ≡ None
  pub sighted : known.sighted.items ≡ []
  pub declarations : (kind : EntityKind) (name : List ℕ) → entity_of known.declarations kind name ≡ None
