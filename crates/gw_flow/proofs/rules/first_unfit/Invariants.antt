use Rattle.std.proofs.Common.{◌≡◌, take}
use Rattle.std.specs.List.{find}
use Rattle.gw_rules.specs.Blocks.{parameters_read}
use Rattle.gw_flow.specs.Unfit.{is_unfit}
use Rattle.gw_flow.proofs.rules.first_unfit.Given as goal

-- the least so far is that of the operands so far
abbrev pub invariant-loop-operand : goal.invariant-loop-operand
invariant-loop-operand g l = l.least ≡ find (is_unfit (g.S.Lookups.known l.state)) (parameters_read l.parts (take l.operand-index l.operands))
