use Rattle.std.proofs.Common.{◌∙◌, List, sym, subst}
use Rattle.std.specs.List.{All}
use Rattle.std.proofs.lemmas.Bool.{true≢false}
use Rattle.gw_figures.specs.Labels.{Label}
use Rattle.gw_rows.specs.Names.{header}
use Rattle.gw_rows.specs.Reading.{IsByName, IsLine}
use Rattle.gw_rows.proofs.HeaderTexts.{header_begins, named_are_by_name, named_by_header}
use Rattle.gw_rows.proofs.header.figures_in.Goals as goal

pub returns-then-not-begins : goal.returns-then-not-begins
returns-then-not-begins c = λ figures by_name plain is.
    true≢false (sym (header_begins c.args.line.now figures plain is) ∙ sym c.begins.ensures ∙ c.if-not-begins.true)

pub returns-then-branch : goal.returns-then-branch
returns-then-branch c = record {
  text = (rw c.deref.ensures.value at c.in_ok-is_header_of.ensures).0 c.if-branch.true;
  by_name = subst (λ (ls : List Label). All IsByName ls) (sym c.in_ok-figures.ensures) (named_are_by_name _);
}

pub returns-else-branch : goal.returns-else-branch
returns-else-branch c = λ figures by_name plain is.
    let line = c.args.line.now in
    let named = c.in_ok-figures.ensures ∙ named_by_header line figures by_name plain is in
    let told = (rw c.deref.ensures.value at c.in_ok-is_header_of.ensures).1 (subst (λ (ls : List Label). IsLine line (header ls)) (sym named) is) in
    true≢false (sym told ∙ c.if-branch.false)
