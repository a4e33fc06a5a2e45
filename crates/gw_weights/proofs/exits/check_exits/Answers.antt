use Rattle.std.proofs.lemmas.Result.{err_from_is_err_and}
use Rattle.gw_rules.specs.Weights.{exit_checks}
use Rattle.gw_weights.proofs.Each.{goes_on, stops}
use Rattle.gw_weights.proofs.exits.check_exits.Goals as goal

pub returns-in_err-check_exit : goal.returns-in_err-check_exit
returns-in_err-check_exit c =
    let found = stops (exit_checks c.args.parts.now c.args.number c.args.block.now) c.args.exits.now c.loop-exit.exit-index _ _
    c.loop-exit-test.true c.loop-exit.invariant _ c.in_err-check_exit.ensures in
    let p = err_from_is_err_and c.from_residual.result c.from_residual.ensures.1 in
    rw (p.1, p.2) found

pub loop-exit-preserved : goal.loop-exit-preserved
loop-exit-preserved c =
    goes_on (exit_checks c.args.parts.now c.args.number c.args.block.now) c.args.exits.now c.loop-exit.exit-index _ _ c.loop-exit-test.true
    c.loop-exit.invariant c.in_ok-check_exit.ensures
