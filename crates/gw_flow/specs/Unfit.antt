-- The least of the parameters that are used as numbers and may be none.
use Rattle.std.specs.Prelude.{ℕ, List, Option, Some, None, Bool, not, if◌then◌else◌, nat_le}
use Rattle.std.specs.List.{fold, find}
use Rattle.gw_object.specs.declared.blocks.Operand.{Operand}
use Rattle.gw_object.specs.declared.parts.Parts.{Parts}
use Rattle.gw_rules.specs.Rows.{Row, kind_of, is_number}
use Rattle.gw_rules.specs.Blocks.{parameters_read}

-- whether a parameter isn't sure to hold a number
abbrev pub is_unfit : Row → ℕ → Bool
is_unfit state p = not (is_number (kind_of state p))

-- the least parameter that operands ask for and that isn't sure to hold a number, if there is one
abbrev pub first_unfit : Parts → List Operand → Row → Option ℕ
first_unfit p os state = find (is_unfit state) (parameters_read p os)

-- the lesser of two numbers, or the one that there is
abbrev pub lower : Option ℕ → ℕ → Option ℕ
lower None n = Some n
lower (Some m) n = if nat_le m n then Some m else Some n

-- the least so far, lowered to a parameter, if that one isn't sure to hold a number
abbrev pub lower_to : Row → Option ℕ → ℕ → Option ℕ
lower_to state least p = if is_unfit state p then lower least p else least

-- the least so far, lowered to those of these parameters that aren't sure to hold a number
abbrev pub lowest : Row → Option ℕ → List ℕ → Option ℕ
lowest state least ps = fold (lower_to state) least ps
