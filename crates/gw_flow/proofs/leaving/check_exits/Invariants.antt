use Rattle.std.proofs.Common.{◌≡◌, drop}
use Rattle.gw_rules.specs.Checks.{first_broken}
use Rattle.gw_rules.specs.Flow.{edge_check}
use Rattle.gw_flow.specs.Known.{known_row}
use Rattle.gw_flow.specs.ViewedTable.{table_viewed}
use Rattle.gw_flow.proofs.Exits.{along}
use Rattle.gw_flow.proofs.leaving.check_exits.Given as goal

-- the first fault along the exits that are left is that along all
abbrev pub invariant-loop-exit : goal.invariant-loop-exit
invariant-loop-exit l =
    first_broken (along (edge_check (table_viewed l.table) l.number) l.number (known_row l.table.returns.now l.passed)
    (drop l.exit-index l.exits))
    ≡ first_broken (along (edge_check (table_viewed l.table) l.number) l.number (known_row l.table.returns.now l.passed) l.exits)
