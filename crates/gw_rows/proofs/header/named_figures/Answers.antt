use Rattle.std.proofs.Common.{◌∙◌, sym}
use Rattle.gw_figures.specs.Labels.{labels as labels_of}
use Rattle.gw_rows.proofs.HeaderTexts.{at_change, at_pushed}
use Rattle.gw_rows.proofs.header.named_figures.Goals as goal

pub returns-then-begins : goal.returns-then-begins
returns-then-begins c =
    at_change (labels_of c.loop-i.figures.items) c.args.names.now c.loop-i.i _ c.loop-i-test.true (sym c.begins.ensures ∙ c.if-begins.true)
    c.loop-i.invariant

pub loop-i-preserved : goal.loop-i-preserved
loop-i-preserved c =
    at_pushed c.loop-i.figures.items c.push.new.self.items c.in_ok-figure_of.field-0 c.args.names.now c.loop-i.i _ c.loop-i-test.true
    (sym c.begins.ensures ∙ c.if-begins.false) c.in_ok-figure_of.ensures c.in_ok-push.ensures.items c.loop-i.invariant
