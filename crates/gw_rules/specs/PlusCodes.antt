-- The codes of refusals that checking PLUS code answers.
use Rattle.std.specs.Prelude.{ℕ}
use Rattle.gw_rules.specs.declared.plus_codes.TheConstants.{STACK_HEIGHT, STACK_EMPTY, BAD_JUMP, CALL_ORDER, TOO_COSTLY, NEEDS_PARAM}

-- no height of the stack is known, or two heights meet, or one is too great
abbrev pub stack_height : ℕ
stack_height = STACK_HEIGHT

-- fewer values are on the stack than an instruction takes
abbrev pub stack_empty : ℕ
stack_empty = STACK_EMPTY

-- a jump leads to no instruction that it may lead to, or code ends without a RET
abbrev pub bad_jump : ℕ
bad_jump = BAD_JUMP

-- a procedure is called that isn't a lower one
abbrev pub call_order : ℕ
call_order = CALL_ORDER

-- a procedure may take too many instructions
abbrev pub too_costly : ℕ
too_costly = TOO_COSTLY

-- a parameter is read, or needed by what is called, that isn't listed as needed
abbrev pub needs_param : ℕ
needs_param = NEEDS_PARAM
