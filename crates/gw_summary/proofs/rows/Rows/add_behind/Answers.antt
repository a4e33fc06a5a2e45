use Rattle.std.proofs.Common.{◌∙◌, ◌<◌, ◌^◌, ap, arith}
use Rattle.gw_figures.specs.Labels.{labels}
use Rattle.gw_summary.proofs.HoldingLines.{row_no_refusal, row_read}
use Rattle.gw_summary.proofs.HoldingRows.{has_its_header}
use Rattle.gw_summary.proofs.Taking.{refusal_added}
use Rattle.gw_summary.proofs.rows.Rows.add_behind.Goals as goal

pub returns-in-Some-2-clause-takes : goal.returns-in-Some-2-clause-takes
returns-in-Some-2-clause-takes c =
    let told = rw c.in-Some-2.is at c.in_ok-refused-in-None.ensures in
    refusal_added c.add_refused.result c.args.line.now c.args.self.now c.add_refused.new.self
    (c.in-Some-2.refused.model.items, c.in-Some-2.refused.text.items, told) c.add_refused.ensures.same c.add_refused.ensures.refused

pub returns-in-Some-2-clause-study : goal.returns-in-Some-2-clause-study
returns-in-Some-2-clause-study c = λ s some readable row held.
    let told = rw c.in-Some-2.is at c.in_ok-refused-in-None.ensures in
    absurd (row_no_refusal s c.args.line.now readable c.in-Some-2.refused.model.items c.in-Some-2.refused.text.items row told)

pub returns-in-Some-clause-study : goal.returns-in-Some-clause-study
returns-in-Some-clause-study c =
    let old = c.args.self.now in
    let line = c.args.line.now in
    let read = c.in-Some.row in
    λ s some readable row held.
    let same = ap labels c.deref.ensures.value ∙ (has_its_header s old some held.holds).figures in
    let found = rw c.in-Some.is at c.in_ok-row.ensures in
    let many : read.origin.rows < 2 ^ 64 = omega arith in
    let from : read.origin.from < 2 ^ 64 = omega arith in
    c.add_row.ensures.study s readable (row_read s line readable (labels c.deref.result.now) read many from row found.row_is) held
