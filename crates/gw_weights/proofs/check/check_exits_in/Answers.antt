use Rattle.gw_rules.proofs.Rooms.{returns_have_room}
use Rattle.gw_weights.proofs.check.check_exits_in.Goals as goal

pub check_returns-requires-clause-next : goal.check_returns-requires-clause-next
check_returns-requires-clause-next c =
    rw (c.blocks_read-blocks.ensures, c.as_slice.ensures)
    (returns_have_room c.args.parts.now.returns c.requires.next c.args.row.now.parameters c.in-TransferByParameter.parameter)
