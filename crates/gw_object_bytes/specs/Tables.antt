-- The bytes of what stands behind the termination count of an object, of what stands behind its blocks, and of the weights of blocks.
use Rattle.std.specs.Prelude.{ℕ, List, ◌++◌, length, Option}
use Rattle.std.specs.List.{flat_map, zip}
use Rattle.gw_fields.specs.Fields.{Field, plain, elements, list_spelling}
use Rattle.gw_object.specs.BlockGrammar.{block}
use Rattle.gw_object.specs.CodeGrammar.{procedure}
use Rattle.gw_object.specs.declared.parts.Parts.{Parts}
use Rattle.gw_object.specs.Entities.{chains_in, entity}
use Rattle.gw_object.specs.Grammar.{sloped_weight, tables}

-- so many weights of blocks, each with its slope
abbrev pub sloped_weights : ℕ → ℕ → Field (List (ℕ × Option (ℕ × ℕ)))
sloped_weights version n = elements (plain (sloped_weight version)) n

-- the bytes that spell weights of blocks and their slopes
abbrev pub sloped_spelling : ℕ → List ℕ → List (Option (ℕ × ℕ)) → List ℕ
sloped_spelling version weights slopes = flat_map (sloped_weight version).spell (zip weights slopes)

-- the bytes that spell the return rows, the rows of the state table, the weights of blocks with their slopes, and those of user chains
abbrev pub tables_spelling : Parts → List ℕ
tables_spelling p = (tables p.version (length p.blocks) (chains_in p.entities)).spell
    (p.returns, (p.states, (p.chain_states, ((p.weights, p.slopes), p.chain_weights))))

-- the bytes that spell the entities, procedures and blocks, and what stands behind them
abbrev pub lists_spelling : Parts → List ℕ
lists_spelling p = list_spelling entity.spell p.entities
    ++ (list_spelling procedure.spell p.procedures ++ (list_spelling (block p.version).spell p.blocks ++ tables_spelling p))
