use Rattle.std.proofs.Common.{sym}
use Rattle.gw_flow.specs.Known.{known_row}
use Rattle.gw_flow.proofs.checking.check_block.Goals as goal

pub check_with_row-requires-clause-room : goal.check_with_row-requires-clause-room
check_with_row-requires-clause-room c = c.requires.room c.args.number (known_row c.args.table.returns.now c.in-Some.state.now) (sym c.in-Some.ensures)
