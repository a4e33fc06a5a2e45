use Rattle.std.proofs.Common.{◌≡◌, List, map, take, option_map}
use Rattle.gw_object.specs.declared.parts.ReturnRow.{ReturnRow}
use Rattle.gw_rules.specs.Seen.{row_meaning}
use Rattle.gw_flow.specs.Known.{known_row}
use Rattle.gw_flow.proofs.table.own_rows.Given as goal

-- the rows so far say what those of the states so far say
abbrev pub invariant-loop-state : goal.invariant-loop-state
invariant-loop-state l = (returns : List ReturnRow) → map (option_map (known_row returns)) l.rows.items
    ≡ map (option_map (row_meaning returns)) (take l.state-index l.states)
