use Rattle.std.proofs.Common.{◌≡◌, take}
use Rattle.gw_flow.specs.Unfit.{lowest}
use Rattle.gw_flow.proofs.rules.lowest.Given as goal

-- the least so far is that of the parameters so far
abbrev pub invariant-loop-parameter : goal.invariant-loop-parameter
invariant-loop-parameter g l = l.least ≡ lowest (g.S.Lookups.known l.state) l.fn.so_far (take l.parameter-index l.parameters)
