use Rattle.std.proofs.Common.{inl}
use Rattle.std.proofs.lemmas.Result.{err_from_is_err_and}
use Rattle.gw_rules.proofs.Broken.{stops_first}
use Rattle.gw_rules.specs.Flow.{rule_checks, edge_checks}
use Rattle.gw_flow.specs.Known.{known_row}
use Rattle.gw_flow.specs.ViewedTable.{table_viewed}
use Rattle.gw_flow.proofs.Found.{found_later}
use Rattle.gw_flow.proofs.checking.check_in.Goals as goal

pub returns-in_err-check_rules : goal.returns-in_err-check_rules
returns-in_err-check_rules c =
    let state = known_row c.args.table.returns.now c.args.state.now in
    let rules = rule_checks c.args.parts.now c.args.number c.args.block.now state in
    let edges = edge_checks c.args.parts.now (table_viewed c.args.table) c.args.number c.args.block.now state in
    let p = err_from_is_err_and c.from_residual.result c.from_residual.ensures.1 in
    let told = c.in_err-check_rules.ensures in
    rw (p.1, p.2) (inl (stops_first rules edges _ (rw c.rows-returns.ensures at told)))

pub returns-in-Ok : goal.returns-in-Ok
returns-in-Ok c =
    let state = known_row c.args.table.returns.now c.args.state.now in
    let rules = rule_checks c.args.parts.now c.args.number c.args.block.now state in
    let edges = edge_checks c.args.parts.now (table_viewed c.args.table) c.args.number c.args.block.now state in
    let none = c.in_ok-check_rules.ensures in
    found_later c.check_edges.result rules edges (rw c.rows-returns.ensures at none) c.check_edges.ensures
