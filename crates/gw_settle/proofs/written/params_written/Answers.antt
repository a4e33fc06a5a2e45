use Rattle.std.proofs.lemmas.Result.{err_from_is_err_and}
use Rattle.gw_settle.specs.Numbers.{sets_of}
use Rattle.gw_settle.proofs.Stopping.{stops_param}
use Rattle.gw_settle.proofs.written.params_written.Goals as goal

pub returns-in_err-kind-clause-stops : goal.returns-in_err-kind-clause-stops
returns-in_err-kind-clause-stops c =
    let p = err_from_is_err_and c.from_residual-in_err-kind.result c.from_residual-in_err-kind.ensures.1 in
    rw (p.1, p.2) (stops_param (sets_of c.args.returns.now) c.args.params.now c.loop-param.param-index c.param-item.result _
    c.loop-param-test.true c.param-item.is c.in_err-kind.ensures.stops)
