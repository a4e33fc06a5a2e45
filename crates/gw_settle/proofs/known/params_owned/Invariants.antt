use Rattle.std.proofs.Common.{◌≡◌, take}
use Rattle.gw_flow.specs.Viewed.{params_viewed}
use Rattle.gw_settle.specs.Known.{params_known}
use Rattle.gw_settle.proofs.known.params_owned.Given as goal

-- those so far are the parameters so far
abbrev pub invariant-loop-param : goal.invariant-loop-param
invariant-loop-param l = params_known l.own.items ≡ params_viewed (take l.param-index l.params)
