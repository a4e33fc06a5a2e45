use Rattle.std.proofs.Common.{◌≡◌, ◌≤◌, length, take}
use Rattle.gw_settle.specs.Known.{params_known}
use Rattle.gw_settle.specs.Numbers.{sets_of, with_params}
use Rattle.gw_settle.proofs.written.add_params.Given as goal

abbrev pub invariant-loop-param : goal.invariant-loop-param
invariant-loop-param l = record {
  sets : sets_of l.returns.items ≡ with_params (sets_of l.fn.returns.items) (params_known (take l.param-index l.params));
  few : length l.returns.items ≤ 4096;
}
