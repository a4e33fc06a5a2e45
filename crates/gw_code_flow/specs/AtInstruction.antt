-- The checks of PLUS code at one instruction, as the code carries it.
use Rattle.std.specs.Prelude.{ℕ, ◌-◌, List, Option, None}
use Rattle.gw_num.specs.Table.{at}
use Rattle.gw_rules.specs.Checks.{Check}
use Rattle.gw_code_flow.specs.declared.check.InstructionAt.{InstructionAt}
use Rattle.gw_rules.specs.PlusChecks.{Heights, height_after, heights_after, instruction_checks}

-- by the instruction at its position, with this height before it
abbrev pub checks_with : InstructionAt → Heights → Option ℕ → List Check
checks_with here heights before =
    instruction_checks here.parts.now here.number here.procedure.now heights here.position here.instruction before

-- and with the one that is known
abbrev pub checks_at : InstructionAt → Heights → List Check
checks_at here heights = checks_with here heights (at None heights here.position)

-- the height after it, where this one is before it
abbrev pub height_behind : InstructionAt → ℕ → ℕ
height_behind here height = height_after here.parts.now here.instruction height

-- the heights once it has told its own
abbrev pub heights_behind : InstructionAt → Heights → Heights
heights_behind here heights = heights_after here.parts.now heights here.position here.instruction
