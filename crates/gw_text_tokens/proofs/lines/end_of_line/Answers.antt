-- the place is the first at which a line feed stands, or the length
use Rattle.std.proofs.Common.{arith, sym, eq-eqb, get_or, length}
use Rattle.std.proofs.lemmas.List.Sums.{position_or_len_is}
use Rattle.gw_text_tokens.proofs.FirstLine.{is_line_feed}
use Rattle.gw_text_tokens.proofs.lines.end_of_line.Goals as goal

pub returns-then-text-end-eq10 : goal.returns-then-text-end-eq10
returns-then-text-end-eq10 c =
    sym (position_or_len_is is_line_feed c.args.text.now c.loop-end.end 0 (omega (arith, c.loop-end-test.true)) c.loop-end.invariant
    (λ _. eq-eqb (get_or c.args.text.now c.loop-end.end 0) 10 c.if-text-end-eq10.true))

pub returns : goal.returns
returns c =
    sym (position_or_len_is is_line_feed c.args.text.now (length c.args.text.now) 0 (omega arith)
    (λ k below. c.loop-end.invariant k (omega (arith, below, c.loop-end-test.false))) (λ h. absurd (omega (arith, h))))
