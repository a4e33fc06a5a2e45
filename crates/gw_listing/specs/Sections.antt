-- The parts of an object that have a line each.
use Rattle.std.specs.Prelude.{ℕ, List, [], ◌∷◌, length}
use Rattle.gw_object.specs.declared.parts.Parts.{Parts}
use Rattle.gw_listing.specs.declared.sections.Section.{Section}
use Rattle.gw_listing.specs.declared.sections.Section.TheVariants as sections
use Rattle.gw_listing.specs.Lines.{Opening, Front, openings_below}
use Rattle.gw_listing.specs.Shape.{block_front, entity_front, chain_front, instruction_front, return_front}

-- how many parts it has
abbrev pub section_length : Parts → Section → ℕ
section_length parts (sections.Blocks lines) = length parts.blocks
section_length parts (sections.Entities lines) = length parts.entities
section_length parts sections.Chains = length parts.chain_weights
section_length parts (sections.Instructions code) = length code.now
section_length parts sections.Returns = length parts.returns

-- what the line at a place of it begins with
abbrev pub section_front : Parts → Section → ℕ → List ℕ
section_front parts (sections.Blocks lines) place = block_front lines.now parts place
section_front parts (sections.Entities lines) place = entity_front lines.now place
section_front parts sections.Chains place = chain_front parts.chain_weights place
section_front parts (sections.Instructions code) place = instruction_front place
section_front parts sections.Returns place = return_front place

abbrev pub section_opening : Parts → Section → ℕ → List Opening
section_opening parts section place = Front (section_front parts section place) ∷ []

-- a line for each part
abbrev pub section_openings : Parts → Section → List Opening
section_openings parts section = openings_below (section_opening parts section) (section_length parts section)
