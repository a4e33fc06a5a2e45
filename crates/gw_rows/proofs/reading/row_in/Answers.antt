use Rattle.std.proofs.Common.{◌∙◌, ap, map, sym}
use Rattle.std.proofs.lemmas.Bool.{true≢false}
use Rattle.gw_figures.specs.Labels.{labels as labels_of}
use Rattle.gw_rows.proofs.RowTexts.{no_row}
use Rattle.gw_rows.proofs.reading.row_in.Goals as goal

pub returns-then-branch : goal.returns-then-branch
returns-then-branch c = record {
  row_is = c.in_ok-is_row_of.ensures.row.0 c.if-branch.true;
  figures = c.in_ok-row.ensures.figures;
  range = c.in_ok-is_row_of.ensures.range c.if-branch.true c.in_ok-row.ensures.figures;
}

pub returns : goal.returns
returns c =
    no_row (labels_of c.args.figures.now) c.args.line.now (map (λ p. p.now) c.deref.result.now) c.in_ok-row.row
    (ap (map (λ p. p.now)) c.deref.ensures.value ∙ c.in_ok-parts.ensures) c.in_ok-row.ensures
    (λ h. true≢false (sym (c.in_ok-is_row_of.ensures.row.1 h) ∙ c.if-branch.false))
