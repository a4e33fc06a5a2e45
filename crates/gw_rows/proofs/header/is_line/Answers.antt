use Rattle.std.proofs.Common.{◌∙◌, ap, sym}
use Rattle.std.specs.Str.{bytes_eq}
use Rattle.gw_rows.proofs.Lines.{is_line, is_no_line}
use Rattle.gw_rows.proofs.header.is_line.Goals as goal

pub returns-then-eq : goal.returns-then-eq
returns-then-eq c =
    is_line c.args.line.now c.args.text.now c.split_at.result.0.now c.split_at.result.1.now c.eq-then-eq.result c.saturating_sub.result
    c.split_at.ensures.front c.split_at.ensures.back c.saturating_sub.ensures (sym c.eq.ensures ∙ c.if-eq.true)
    (c.eq-then-eq.ensures ∙ ap (bytes_eq c.split_at.result.1.now) c.as_slice.ensures)

pub returns-else-eq : goal.returns-else-eq
returns-else-eq c =
    is_no_line c.args.line.now c.args.text.now c.split_at.result.0.now c.eq.result c.saturating_sub.result
    c.split_at.ensures.front c.saturating_sub.ensures c.eq.ensures c.if-eq.false
