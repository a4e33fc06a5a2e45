-- A text that is too long has a line, and one that isn't has few of them.
use Rattle.std.proofs.Common.{◌≡◌, length, map, arith, ap}
use Rattle.std.proofs.lemmas.List.{length-map}
use Rattle.std.specs.Str.Lines.{lines}
use Rattle.gw_text_tokens.proofs.FirstLine.{has_line, few_lines}
use Rattle.gw_text.proofs.parsing.parse.Goals as goal

pub returns-then-text-gt-MOST_BYTES-clause-refused : goal.returns-then-text-gt-MOST_BYTES-clause-refused
returns-then-text-gt-MOST_BYTES-clause-refused c =
    (omega arith, has_line c.args.text.now (omega (arith, c.if-text-gt-MOST_BYTES.true)), omega arith, omega arith)

pub read_all-requires : goal.read_all-requires
read_all-requires c =
    let seen : length c.as_slice.result.now ≡ length c.in-Ok.lines.items = ap length c.as_slice.ensures.value in
    let each : length (map (λ x. x.now) c.in-Ok.lines.items) ≡ length c.in-Ok.lines.items = length-map c.in-Ok.lines.items (λ x. x.now) in
    let found : length (map (λ x. x.now) c.in-Ok.lines.items) ≡ length (lines c.args.text.now) = ap length c.in-Ok.ensures in
    omega (arith, seen, each, found, few_lines c.args.text.now, c.if-text-gt-MOST_BYTES.false)
