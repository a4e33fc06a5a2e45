use Rattle.std.proofs.Common.{take}
use Rattle.gw_settle.specs.Versions.{AgreeBut}
use Rattle.gw_settle.proofs.passing.are_same_params_but.Given as goal

abbrev pub invariant-loop-i : goal.invariant-loop-i
invariant-loop-i l = AgreeBut l.parameter (take l.i l.params) (take l.i l.others)
