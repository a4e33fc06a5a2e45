use Rattle.std.proofs.lemmas.Result.{err_from_is_err_and}
use Rattle.gw_settle.specs.Numbers.{sets_of}
use Rattle.gw_settle.proofs.Stopping.{stops_params}
use Rattle.gw_settle.proofs.written.add_params.Goals as goal

pub returns-in_err-add_kind-clause-stops : goal.returns-in_err-add_kind-clause-stops
returns-in_err-add_kind-clause-stops c =
    let p = err_from_is_err_and c.from_residual.result c.from_residual.ensures.1 in
    rw (p.1, p.2) (stops_params (sets_of c.args.returns.now.items) (sets_of c.loop-param.returns.items) c.args.params.now
    c.loop-param.param-index c.param-item.result _ c.loop-param-test.true c.param-item.is c.loop-param.invariant.sets c.in_err-add_kind.ensures.stops)
