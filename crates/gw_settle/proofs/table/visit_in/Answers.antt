use Rattle.std.proofs.Common.{rules, Some, ap, ◌∙◌}
use Rattle.gw_settle.proofs.Sharing.{goes_behind}
use Rattle.gw_settle.proofs.table.visit_in.Goals as goal

pub visit_return-requires-clause-there : goal.visit_return-requires-clause-there
visit_return-requires-clause-there c = c.requires.there ∙ ap Some c.in-TransferByParameter.is

pub visit_behind-requires-clause-sends : goal.visit_behind-requires-clause-sends
visit_behind-requires-clause-sends c = goes_behind c.args.parts.now c.args.number c.args.block.now c.args.row.now c.in-Some.behind (search rules)
