use Rattle.gw_summary.proofs.Summing.{answered}
use Rattle.gw_summary.proofs.WholeStudies.{cut_told, studies_told}
use Rattle.gw_summary.proofs.telling.summary.Goals as goal

pub returns-clause-summary : goal.returns-clause-summary
returns-clause-summary c =
    let told = rw c.rows.ensures at c.lines_told.ensures.summary in
    answered c.args.pieces.now c.args.request c.lines_told.result (c.is_cut.ensures.whole c.if-is_cut.false) told

pub returns-clause-study : goal.returns-clause-study
returns-clause-study c =
    studies_told c.lines_told.result c.args.pieces.now c.args.request (rw c.rows.ensures at c.lines_told.ensures.study)

pub returns-then-is_cut-clause-study : goal.returns-then-is_cut-clause-study
returns-then-is_cut-clause-study c = cut_told c.refusal.result c.args.pieces.now c.args.request (c.is_cut.ensures.cut c.if-is_cut.true)
