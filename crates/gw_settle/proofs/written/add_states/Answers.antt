use Rattle.std.proofs.lemmas.Result.{err_from_is_err_and}
use Rattle.gw_settle.specs.Numbers.{sets_of}
use Rattle.gw_settle.proofs.Stopping.{stops_rows}
use Rattle.gw_settle.proofs.written.add_states.Goals as goal

pub returns-in_err-add_state-clause-stops : goal.returns-in_err-add_state-clause-stops
returns-in_err-add_state-clause-stops c =
    let p = err_from_is_err_and c.from_residual.result c.from_residual.ensures.1 in
    rw (p.1, p.2) (stops_rows (sets_of c.args.returns.now.items) (sets_of c.loop-row.returns.items) c.args.rows.now c.loop-row.row-index
    c.row-item.result _ c.loop-row-test.true c.row-item.is c.loop-row.invariant.sets c.in_err-add_state.ensures.stops)
