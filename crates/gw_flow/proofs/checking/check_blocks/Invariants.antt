use Rattle.std.proofs.Common.{◌≡◌, ◌+◌, drop}
use Rattle.std.specs.Prelude.{All}
use Rattle.gw_rules.specs.Checks.{first_broken, checks_by_number}
use Rattle.gw_rules.specs.Flow.{checks_at}
use Rattle.gw_flow.specs.ViewedTable.{table_viewed}
use Rattle.gw_flow.specs.ReturnEdges.{PassesBy}
use Rattle.gw_flow.proofs.checking.check_blocks.Given as goal

-- the first fault of the blocks that are left is that of all, and the earlier returns pass
abbrev pub invariant-loop-i : goal.invariant-loop-i
invariant-loop-i l = record {
  left : first_broken (checks_by_number (checks_at l.parts (table_viewed l.table)) (l.i + 1) (drop l.i l.blocks))
      ≡ first_broken (checks_by_number (checks_at l.parts (table_viewed l.table)) 1 l.blocks);
  pass : All (PassesBy l.table) l.earlier.items;
}
