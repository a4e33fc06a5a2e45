use Rattle.std.proofs.Common.{map}
use Rattle.std.proofs.lemmas.List.{map-append}
use Rattle.std.proofs.lemmas.Result.{err_from_is_err_and}
use Rattle.gw_rules.specs.Blocks.{edges_from, chain_edges}
use Rattle.gw_rules.specs.Flow.{edge_check}
use Rattle.gw_flow.specs.Known.{known_row}
use Rattle.gw_flow.specs.ViewedTable.{table_viewed}
use Rattle.gw_flow.proofs.Found.{found_first, found_after}
use Rattle.gw_flow.proofs.leaving.check_edges.Goals as goal

pub returns-in_err-check_moves : goal.returns-in_err-check_moves
returns-in_err-check_moves c =
    let check = edge_check (table_viewed c.args.table) c.args.number in
    let state = known_row c.args.table.returns.now c.args.state.now in
    let es = edges_from c.args.number c.args.block.now state in
    let cs = chain_edges (table_viewed c.args.table) c.args.block.now state in
    let p = err_from_is_err_and c.from_residual.result c.from_residual.ensures.1 in
    rw (p.1, p.2, map-append check es cs) (found_first (map check es) (map check cs) _ c.in_err-check_moves.ensures)

pub returns : goal.returns
returns c =
    let check = edge_check (table_viewed c.args.table) c.args.number in
    let state = known_row c.args.table.returns.now c.args.state.now in
    let es = edges_from c.args.number c.args.block.now state in
    let cs = chain_edges (table_viewed c.args.table) c.args.block.now state in
    rw (map-append check es cs) (found_after c.check_chains.result (map check es) (map check cs) c.in_ok-check_moves.ensures c.check_chains.ensures)
