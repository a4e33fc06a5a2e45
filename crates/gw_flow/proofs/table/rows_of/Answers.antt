use Rattle.std.proofs.Common.{ap, map, option_map, ◌∙◌}
use Rattle.gw_rules.specs.Seen.{row_meaning}
use Rattle.gw_flow.proofs.table.rows_of.Goals as goal

pub returns-clause-blocks : goal.returns-clause-blocks
returns-clause-blocks c = λ returns. c.in_ok-own_rows.ensures returns ∙ ap (map (option_map (row_meaning returns))) c.as_slice.ensures

pub returns-clause-chains : goal.returns-clause-chains
returns-clause-chains c = λ returns. c.in_ok-own_rows-2.ensures returns ∙ ap (map (option_map (row_meaning returns))) c.as_slice-2.ensures
