-- What is noted of a model that is accepted: it runs, but maybe not as its author thinks.
use Rattle.std.specs.Prelude.{◌≡◌, ◌<◌, ℕ, ◌+◌, List, [], ◌∷◌, codes, length, drop, Bool, true, ◌&&◌, Some, slice_get, map, Contains, nat_eq}
use Rattle.std.specs.List.{list_any, starts_with}
use Rattle.gw_num.specs.Numerals.{is_number}
use Rattle.gw_object.specs.declared.blocks.Operand.{Operand}
use Rattle.gw_object.specs.declared.blocks.Block.TheVariants.{Terminate}
use Rattle.gw_object.specs.declared.parts.Entity.{Entity}
use Rattle.gw_object.specs.declared.parts.Parts.{Parts}
use Rattle.gw_object.specs.declared.parts.TableState.{TableState}
use Rattle.gw_notes.specs.declared.noting.Note.{Note}
use Rattle.gw_notes.specs.declared.noting.Note.TheVariants.{OwnSeeds, OtherStream, ReadsAsAttribute, NothingCounts, HoldsAtEnd, OnlyGrows}
use Rattle.gw_notes.specs.Drawing.{draws}
use Rattle.gw_notes.specs.Flowing.{only_grows, nothing_counts}

-- a name is a class of attributes and digits
abbrev pub is_numbered : List ℕ → List ℕ → Bool
is_numbered name class = starts_with nat_eq name class && is_number (drop (length class) name)

-- the classes whose attributes stand for a name in other dialects
abbrev pub naming_classes : List (List ℕ)
naming_classes = codes "P" ∷ codes "X" ∷ codes "V" ∷ codes "FN" ∷ codes "RN" ∷ []

-- a name reads as an attribute
unfoldable pub reads_as_attribute : List ℕ → Bool
reads_as_attribute name = list_any (is_numbered name) naming_classes

-- an entity has a name that does
pub record HasNameOfAttribute (parts : Parts) (number : ℕ) : Type 0 where
  pub entity : Entity
  pub there : slice_get parts.entities number ≡ Some entity
  pub name : reads_as_attribute entity.name ≡ true

-- who comes to a block, by its place from 0, holds units of an entity, and the block is a TERMINATE
pub record HoldsUnits (parts : Parts) (place entity : ℕ) : Type 0 where
  pub by : Operand
  pub block : slice_get parts.blocks place ≡ Some (Terminate by)
  pub row : TableState
  pub known : slice_get parts.states place ≡ Some (Some row)
  pub held : Contains (map (λ units. units.entity) row.units) entity

-- what a note says is so
abbrev pub Holds : Parts → Note → Type 0
Holds parts (OwnSeeds first second) = (parts.seeds ≡ []) × (draws parts first ≡ true) × (draws parts second ≡ true)
Holds parts (OtherStream stream) = (1 < stream) × (draws parts stream ≡ true)
Holds parts (ReadsAsAttribute entity) = HasNameOfAttribute parts entity
Holds parts NothingCounts = nothing_counts parts ≡ true
Holds parts (HoldsAtEnd block entity) = (place : ℕ) × (block ≡ place + 1) × HoldsUnits parts place entity
Holds parts (OnlyGrows entity) = only_grows parts entity ≡ true
