-- The codes of refusals that checking kinds answers.
use Rattle.std.specs.Prelude.{ℕ}
use Rattle.gw_rules.specs.declared.kinds_codes.TheConstants.{WRONG_KIND, NO_ENTITY, NO_BLOCK, ENTERS_GENERATE, FALLS_OFF, BAD_CONSTANT}

-- an entity is of another kind than what names it needs
abbrev pub wrong_kind : ℕ
wrong_kind = WRONG_KIND

-- an entity is named that isn't there
abbrev pub no_entity : ℕ
no_entity = NO_ENTITY

-- a block is named that isn't there
abbrev pub no_block : ℕ
no_block = NO_BLOCK

-- a transaction would go on to a GENERATE block
abbrev pub enters_generate : ℕ
enters_generate = ENTERS_GENERATE

-- a transaction would go on after the last block
abbrev pub falls_off : ℕ
falls_off = FALLS_OFF

-- a constant is outside the range of its field
abbrev pub bad_constant : ℕ
bad_constant = BAD_CONSTANT
