use Rattle.std.proofs.Common.{◌≡◌, take}
use Rattle.gw_settle.specs.Known.{params_known}
use Rattle.gw_settle.proofs.passing.are_same_params.Given as goal

abbrev pub invariant-loop-i : goal.invariant-loop-i
invariant-loop-i l = params_known (take l.i l.params) ≡ params_known (take l.i l.others)
