use Rattle.gw_summary.proofs.HoldingLines.{row_no_refusal}
use Rattle.gw_summary.proofs.Taking.{refusal_added}
use Rattle.gw_summary.proofs.rows.Rows.add_before.Goals as goal

pub returns-in-Some-clause-takes : goal.returns-in-Some-clause-takes
returns-in-Some-clause-takes c =
    let told = rw c.in-Some.is at c.in_ok-refused.ensures in
    refusal_added c.add_refused.result c.args.line.now c.args.self.now c.add_refused.new.self
    (c.in-Some.refused.model.items, c.in-Some.refused.text.items, told) c.add_refused.ensures.same c.add_refused.ensures.refused

pub returns-in-Some-clause-study : goal.returns-in-Some-clause-study
returns-in-Some-clause-study c = λ s none readable row held.
    let told = rw c.in-Some.is at c.in_ok-refused.ensures in
    absurd (row_no_refusal s c.args.line.now readable c.in-Some.refused.model.items c.in-Some.refused.text.items row told)
