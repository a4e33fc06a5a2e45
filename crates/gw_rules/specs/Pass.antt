-- Kinds pass: every check of them, in order.
use Rattle.std.specs.Prelude.{◌≡◌, List, ◌++◌, None}
use Rattle.gw_object.specs.declared.fault.Place.TheVariants as places
use Rattle.gw_object.specs.declared.parts.Parts.{Parts}
use Rattle.gw_rules.specs.Checks.{Check, first_broken, checks_by_number}
use Rattle.gw_rules.specs.Kinds.{entity_checks, return_checks, row_checks, chain_checks, block_checks}
use Rattle.gw_rules.specs.Procedures.{procedure_checks}

-- of the state table's rows of user chains, each at its chain, and of blocks
abbrev pub chain_and_block_checks : Parts → List Check
chain_and_block_checks p = checks_by_number (chain_checks p) 0 p.entities ++ checks_by_number (block_checks p) 1 p.blocks

-- of the state table's rows of blocks, each at its block, and what comes after them
abbrev pub row_and_later_checks : Parts → List Check
row_and_later_checks p = checks_by_number (λ b. row_checks p (places.Block b)) 1 p.states ++ chain_and_block_checks p

-- of return rows, and what comes after them
abbrev pub return_and_later_checks : Parts → List Check
return_and_later_checks p = checks_by_number (return_checks p) 0 p.returns ++ row_and_later_checks p

-- of procedures, and what comes after them
abbrev pub procedure_and_later_checks : Parts → List Check
procedure_and_later_checks p = checks_by_number (procedure_checks p) 0 p.procedures ++ return_and_later_checks p

-- every check of kinds, in order: of entities, of procedures, of return rows, of the state table's rows, those of
-- blocks before those of user chains, and of blocks
unfoldable pub kinds_checks : Parts → List Check
kinds_checks p = checks_by_number (entity_checks p) 0 p.entities ++ procedure_and_later_checks p

-- kinds hold: no check of them is broken
abbrev pub KindsPass : Parts → Type 0
KindsPass p = first_broken (kinds_checks p) ≡ None
