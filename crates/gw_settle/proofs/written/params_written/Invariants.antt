use Rattle.std.proofs.Common.{◌≡◌, length, take}
use Rattle.gw_rules.specs.Seen.{params_said}
use Rattle.gw_settle.specs.Known.{params_known}
use Rattle.gw_settle.specs.Written.{ParamsName}
use Rattle.gw_settle.proofs.written.params_written.Given as goal

abbrev pub invariant-loop-param : goal.invariant-loop-param
invariant-loop-param l = record {
  said : params_said l.returns l.all.items ≡ params_known (take l.param-index l.params);
  numbers : ParamsName (length l.returns) l.all.items;
}
