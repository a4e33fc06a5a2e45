use Rattle.std.proofs.lemmas.Result.{err_from_is_err_and}
use Rattle.gw_rules.specs.Flow.{edge_check}
use Rattle.gw_flow.specs.Known.{known_row}
use Rattle.gw_flow.specs.ViewedTable.{table_viewed}
use Rattle.gw_flow.proofs.Exits.{goes_along, stops_along, all_along}
use Rattle.gw_flow.proofs.leaving.check_exits.Goals as goal

pub returns-in_err-check_exit : goal.returns-in_err-check_exit
returns-in_err-check_exit c =
    let check = edge_check (table_viewed c.args.table) c.args.number in
    let passed = known_row c.args.table.returns.now c.args.passed.now in
    let p = err_from_is_err_and c.from_residual.result c.from_residual.ensures.1 in
    rw (p.1, p.2) (stops_along check c.args.number passed c.args.exits.now c.loop-exit.exit-index _ _ c.loop-exit-test.true
    c.loop-exit.invariant _ c.in_err-check_exit.ensures)

pub loop-exit-preserved : goal.loop-exit-preserved
loop-exit-preserved c =
    let check = edge_check (table_viewed c.args.table) c.args.number in
    let passed = known_row c.args.table.returns.now c.args.passed.now in
    goes_along check c.args.number passed c.args.exits.now c.loop-exit.exit-index _ _ c.loop-exit-test.true c.loop-exit.invariant c.in_ok-check_exit.ensures

pub returns : goal.returns
returns c =
    let check = edge_check (table_viewed c.args.table) c.args.number in
    let passed = known_row c.args.table.returns.now c.args.passed.now in
    all_along check c.args.number passed c.args.exits.now c.loop-exit.exit-index _ c.loop-exit-test.false c.loop-exit.invariant
