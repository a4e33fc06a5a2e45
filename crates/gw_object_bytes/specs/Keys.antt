-- Keys that ascend in lists of an object.
use Rattle.std.specs.Prelude.{ℕ, ℤ, Option, nat_lt, int_lt}
use Rattle.std.specs.Int.{w64}
use Rattle.gw_fields.specs.Fields.{Field, key_above, signed_number}
use Rattle.gw_object.specs.BlockGrammar.{entity_number}

-- an entity's number that is above the one before it, if there is one
abbrev pub entity_above : Option ℕ → Field ℕ
entity_above before = key_above nat_lt before entity_number

-- the argument of a point that is above that of the point before it, if there is one
abbrev pub argument_above : Option ℤ → Field ℤ
argument_above before = key_above int_lt before (signed_number w64)
