-- Where the parts of an object stand in the text that it comes from.
use Rattle.std.specs.Prelude.{ℕ, List, []}
use Rattle.gw_text.specs.declared.model.Statement.{Statement}
use Rattle.gw_source_lines.specs.declared.places.Sources.{Sources}
use Rattle.gw_source_lines.specs.Lines.{block_lines, entity_lines, procedure_lines}

-- the lines of what a text becomes
pub record Sites : Type 0 where
  -- of the blocks: that of block 1 stands first
  pub blocks : List ℕ
  -- of the entities, by their numbers
  pub entities : List ℕ
  -- of the procedures, by their numbers
  pub procedures : List ℕ

-- those of a text of these statements
abbrev pub sites_of : List Statement → Sites
sites_of ss = record { blocks = block_lines ss; entities = entity_lines ss; procedures = procedure_lines ss }

-- those that are told
abbrev pub sites_told : Sources → Sites
sites_told s = record { blocks = s.blocks.items; entities = s.entities.items; procedures = s.procedures.items }

-- what comes from no text, or from one that can't be read, has none
abbrev pub no_sites : Sites
no_sites = record { blocks = []; entities = []; procedures = [] }
