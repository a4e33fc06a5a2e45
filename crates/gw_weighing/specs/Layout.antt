-- Where weights stand while they are looked for.
use Rattle.std.specs.Prelude.{ℕ, zero, suc, ◌+◌, List, length, nat_lt, if◌then◌else◌}
use Rattle.gw_object.specs.Entities.{chains_in}
use Rattle.gw_object.specs.declared.parts.Entity.{Entity}
use Rattle.gw_object.specs.declared.parts.Parts.{Parts}
use Rattle.gw_rules.specs.Kinds.{chain_place}
use Rattle.gw_weighing.specs.declared.layout.Layout.{Layout}

-- how many places an object has of each sort
abbrev pub layout_of : Parts → Layout
layout_of p = record { blocks = length p.blocks; chains = chains_in p.entities; rows = length p.returns }

-- the places of blocks and user chains
abbrev pub place_count : Layout → ℕ
place_count y = y.blocks + y.chains

-- all places
abbrev pub places : Layout → ℕ
places y = place_count y + y.rows

-- the place of the block of a number, from 1; behind all, where there is none
abbrev pub of_block : Layout → ℕ → ℕ
of_block y zero = places y
of_block y (suc i) = if nat_lt i y.blocks then i else places y

-- the place of the user chain that is the entity of a number; behind all, where there is none
abbrev pub of_chain : Layout → List Entity → ℕ → ℕ
of_chain y es e = if nat_lt (chain_place es e) y.chains then y.blocks + chain_place es e else places y

-- the place of the return row of a number
abbrev pub of_row : Layout → ℕ → ℕ
of_row y r = place_count y + r
