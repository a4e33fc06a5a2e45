-- The lines of what a model text becomes.
use Rattle.std.specs.Prelude.{◌≡◌, ℕ, List, [], ◌∷◌, Option, Some, None, Bool, false, if◌then◌else◌, map, slice_get}
use Rattle.std.specs.List.{flat_map}
use Rattle.gw_text.specs.declared.model.Statement.{Statement}
use Rattle.gw_name_uses.specs.Sites.{Mentioned, mentioned_in}
use Rattle.gw_names.specs.declared.sights.Sighted.{Sighted}
use Rattle.gw_names.specs.Known.{Key, is_same}
use Rattle.gw_text_tokens.specs.Words.{is_block}
use Rattle.gw_names.specs.Places.{declaration_of}
use Rattle.gw_names.specs.Sighting.{key_of}
use Rattle.gw_names.specs.Sights.{entity_in, entities_of}
use Rattle.gw_pieces.specs.Reasons.{line_of}
use Rattle.gw_source_lines.specs.declared.places.Sources.{Sources}
pub use Rattle.gw_pieces.specs.Lines.{procedure_lines}

-- BLOCKS

-- the line of a statement, if it is a block
abbrev pub block_line : Statement → List ℕ
block_line s = if is_block s.word then s.line ∷ [] else []

-- the lines of the blocks of statements, in order
abbrev pub block_lines : List Statement → List ℕ
block_lines ss = flat_map block_line ss

-- ENTITIES

-- whether what is mentioned is an entity, and this one
abbrev pub is_entity : Key → Option Key → Bool
is_entity entity None = false
is_entity entity (Some other) = is_same entity other

-- the line of the first mention of an entity
abbrev pub first_line : Key → List Mentioned → ℕ
first_line entity [] = 0
first_line entity (m ∷ ms) = if is_entity entity (entity_in m.what) then m.line else first_line entity ms

-- the line of an entity: that of its declaration, or else that of its first mention
abbrev pub line_by : List Statement → Key → Option ℕ → ℕ
line_by ss entity (Some declaration) = line_of (slice_get ss declaration)
line_by ss entity None = first_line entity (mentioned_in ss)

-- that of an entity of a text
abbrev pub entity_line : List Statement → Key → ℕ
entity_line ss entity = line_by ss entity (declaration_of ss entity)

-- the lines of the entities of a text, by their numbers
abbrev pub entity_lines : List Statement → List ℕ
entity_lines ss = map (entity_line ss) (entities_of ss)

-- the line of an entity that was sighted, by what is known to declare it
abbrev pub sighted_line : List Statement → Sighted → ℕ
sighted_line ss s = line_by ss (key_of s) s.declaration

-- ALL

-- lines are those of what a text of these statements becomes
pub record AreSources (ss : List Statement) (s : Sources) : Type 0 where
  pub blocks : s.blocks.items ≡ block_lines ss
  pub entities : s.entities.items ≡ entity_lines ss
  pub procedures : s.procedures.items ≡ procedure_lines ss
