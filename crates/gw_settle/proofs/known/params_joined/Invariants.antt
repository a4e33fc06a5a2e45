use Rattle.gw_settle.proofs.Keeping.{ParamsSoFar}
use Rattle.gw_settle.proofs.known.params_joined.Given as goal

abbrev pub invariant-loop-param : goal.invariant-loop-param
invariant-loop-param l = ParamsSoFar l.params l.state l.all.items l.param-index
