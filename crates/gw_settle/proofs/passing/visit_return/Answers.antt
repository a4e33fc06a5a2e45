use Rattle.std.proofs.Common.{sym, subst}
use Rattle.gw_object.specs.declared.blocks.Block.TheVariants as blocks
use Rattle.gw_settle.specs.Versions.{SendsBehind}
use Rattle.gw_settle.proofs.Sharing.{return_is}
use Rattle.gw_settle.proofs.passing.visit_return.Goals as goal

pub visit_passing-requires-clause-sends : goal.visit_passing-requires-clause-sends
visit_passing-requires-clause-sends c =
    let a = c.args in
    subst (SendsBehind a.parts.now a.number (blocks.TransferByParameter a.parameter) a.row.now) (sym c.callers-callers.ensures)
    (return_is a.parts.now a.number a.parameter a.row.now)
