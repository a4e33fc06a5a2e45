use Rattle.std.proofs.Common.{◌∙◌, refl, ap}
use Rattle.std.specs.Prelude.{not}
use Rattle.std.proofs.lemmas.Bool.{true≢false}
use Rattle.std.proofs.lemmas.Slice.Eq.{bytes_eq-Decides}
use Rattle.gw_summary.proofs.HoldingLines.{its_figures, line_is_header, one_line}
use Rattle.gw_summary.proofs.HoldingRows.{has_its_header, header_begun, some_by_test}
use Rattle.gw_summary.proofs.rows.Rows.add_header.Goals as goal

pub returns-then-ne-clause-study : goal.returns-then-ne-clause-study
returns-then-ne-clause-study c = λ s readable is held.
    let line = c.args.line.now in
    let old = c.args.self.now in
    let found = rw c.in-Some.is at c.in_ok-figures.ensures in
    let header = line_is_header s line readable c.in-Some.figures.items found is in
    let has = has_its_header s old (some_by_test old.header c.if-is_empty.ensures) held.holds in
    let same = c.as_slice.ensures.value ∙ one_line old.header.items line _ _ has.text header refl in
    true≢false (c.if-ne.ensures ∙ ap not ((bytes_eq-Decides c.as_slice.result.now line).1 same))

pub returns-in_ok-begin-in-Some-clause-study : goal.returns-in_ok-begin-in-Some-clause-study
returns-in_ok-begin-in-Some-clause-study c = λ s readable is held.
    let line = c.args.line.now in
    let figures = c.in-Some.figures in
    let found = rw c.in-Some.is at c.in_ok-figures.ensures in
    let header = line_is_header s line readable figures.items found is in
    header_begun s line figures c.args.self.now c.begin.new.self (its_figures s line readable figures.items header found)
    c.in_ok-begin-in-Some.ensures.header header
